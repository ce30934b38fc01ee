mod AskedLaws
mod GuardLaws
mod IdLaws
mod ReferenceLaws
mod RoleLaws
