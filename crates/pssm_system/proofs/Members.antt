-- What is known of an object that is looked up by its number.
use Rattle.std.proofs.Common.{◌≡◌, ◌<◌, ℕ, List, length, Some, slice_get, get_or, sym, subst, ◌∙◌}
use Rattle.std.proofs.lemmas.Option.{slice_get-get_or}
use Rattle.pssm_semantics.specs.declared.entry.ObjectId.{ObjectId}
use Rattle.pssm_semantics.specs.declared.entry.Entry.{Entry}
use Rattle.pssm_semantics.specs.declared.setting.Class.{Class}
use Rattle.pssm_semantics.specs.declared.setting.Setting.{Setting}
use Rattle.pssm_semantics.specs.Settings.{class_of}
use Rattle.pssm_semantics.specs.Classes.{IsWellFormedClass}
use Rattle.pssm_semantics.specs.Proper.{IsWellFormed}
use Rattle.pssm_semantics_laws.proofs.SettingClasses.{class_of_object}
use Rattle.pssm_object.specs.Standing.{Standing, Stands}
use Rattle.pssm_system.specs.inner.Keeping.{IsObject, AreObjects}
use Rattle.pssm_system.proofs.Following.{object_there, one_class}

-- an object of the setting, of this class, that stands so
pub record IsMember (setting : Setting) (J : List Entry) (objects : List Standing) (o : ObjectId) (class : Class) (x : Standing) : Type 0 where
  pub class_is : class_of setting o ≡ Some class
  pub well_formed : IsWellFormedClass class
  pub there : slice_get objects o.0 ≡ Some x
  pub object : IsObject class J o x

pub member_at : {setting : Setting} (b : IsWellFormed setting) {J : List Entry} {objects : List Standing} → AreObjects setting J objects → (o : ObjectId)
    (class : Class) (k : ℕ) (d : Standing) → class_of setting o ≡ Some class → k ≡ o.0 → IsMember setting J objects o class (get_or objects k d)
member_at {setting = setting} b {objects = objects} are o class k d is at =
    let lt : k < length objects = subst (λ n. n < length objects) (sym at) (subst (λ n. o.0 < n) (sym are.count) (object_there setting o class is)) in
    let there : slice_get objects o.0 ≡ Some (get_or objects k d) = subst (λ n. slice_get objects n ≡ Some (get_or objects k d)) at (slice_get-get_or objects k d lt) in
    record {
      class_is = is;
      well_formed = (class_of_object setting b o class is).0;
      there = there;
      object = are.each o class (get_or objects k d) is there;
    }

-- the same of the object that was read there
pub member : {setting : Setting} (b : IsWellFormed setting) {J : List Entry} {objects : List Standing} → AreObjects setting J objects → (o : ObjectId) (class : Class)
    (x : Standing) (k : ℕ) → class_of setting o ≡ Some class → k ≡ o.0 → x ≡ get_or objects k x → IsMember setting J objects o class x
member {setting = setting} b {J = J} {objects = objects} are o class x k is at read =
    subst (IsMember setting J objects o class) (sym read) (member_at b are o class k x is at)

-- so it stands after some entries
pub stands_somewhere : {setting : Setting} {J : List Entry} {objects : List Standing} {o : ObjectId} {class : Class} {x : Standing}
    → IsMember setting J objects o class x → Stands class x
stands_somewhere {J = J} m = (J, m.object.stands)

-- an object that was looked up is the one with that number
pub of_member : {setting : Setting} {J : List Entry} {objects : List Standing} {o : ObjectId} {class : Class} {x : Standing} → IsMember setting J objects o class x
    → (P : Class → Standing → Type 0) → P class x → (k : Class) (y : Standing) → class_of setting o ≡ Some k → slice_get objects o.0 ≡ Some y → P k y
of_member {setting = setting} {o = o} {class = class} {x = x} m P here k y is at =
    let same : x ≡ y = let both : Some x ≡ Some y = sym m.there ∙ at in cc in
    subst (λ c. P c y) (one_class setting o class k m.class_is is) (subst (P class) same here)
