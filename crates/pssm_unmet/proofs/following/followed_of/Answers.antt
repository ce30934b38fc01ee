use Rattle.std.proofs.Common.{◌≡◌, refl, []}
use Rattle.pssm_roles.specs.declared.role.Role.{Role}
use Rattle.pssm_roles.specs.declared.role.Role.TheVariants as role
use Rattle.pssm_unmet.specs.References.{followed_of}
use Rattle.pssm_unmet.proofs.following.followed_of.Goals as goal

-- Of no other role is any followed.
none_of : (r : Role) → (r ≡ role.SignalEvent → ⊥) → (r ≡ role.Trigger → ⊥) → (r ≡ role.Instance → ⊥) → (r ≡ role.ActiveClass → ⊥)
    → (r ≡ role.OtherClass → ⊥) → (r ≡ role.ClassMachine → ⊥) → (r ≡ role.Machine → ⊥) → (r ≡ role.Region → ⊥) → (r ≡ role.State → ⊥)
    → (r ≡ role.FinalState → ⊥) → (r ≡ role.Transition → ⊥) → [] ≡ followed_of r
none_of role.SignalEvent other _ _ _ _ _ _ _ _ _ _ = absurd (other refl)
none_of role.Trigger _ other _ _ _ _ _ _ _ _ _ = absurd (other refl)
none_of role.Instance _ _ other _ _ _ _ _ _ _ _ = absurd (other refl)
none_of role.ActiveClass _ _ _ other _ _ _ _ _ _ _ = absurd (other refl)
none_of role.OtherClass _ _ _ _ other _ _ _ _ _ _ = absurd (other refl)
none_of role.ClassMachine _ _ _ _ _ other _ _ _ _ _ = absurd (other refl)
none_of role.Machine _ _ _ _ _ _ other _ _ _ _ = absurd (other refl)
none_of role.Region _ _ _ _ _ _ _ other _ _ _ = absurd (other refl)
none_of role.State _ _ _ _ _ _ _ _ other _ _ = absurd (other refl)
none_of role.FinalState _ _ _ _ _ _ _ _ _ other _ = absurd (other refl)
none_of role.Transition _ _ _ _ _ _ _ _ _ _ other = absurd (other refl)
none_of _ _ _ _ _ _ _ _ _ _ _ _ = refl

pub returns-in_default : goal.returns-in_default
returns-in_default c =
    let other = c.in_default in
    none_of c.args.role other.not-SignalEvent other.not-Trigger other.not-Instance other.not-ActiveClass other.not-OtherClass other.not-ClassMachine other.not-Machine
    other.not-Region other.not-State other.not-FinalState other.not-Transition
