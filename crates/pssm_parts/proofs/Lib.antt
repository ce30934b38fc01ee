pub mod SayingLaws
pub mod PlaceLaws
pub mod GuardLaws
