-- Names that an index may find.
use Rattle.std.specs.Prelude.{◌≡◌, ℕ, List, map, Option, IfSome}
use Rattle.pssm_semantics.specs.declared.setting.Names.{Names}

-- Where an index has names, they are these in their order.
abbrev pub IsIndexOf : List (List ℕ) → Option (List (List ℕ)) → Type 0
IsIndexOf names index = IfSome index (λ kept. kept ≡ names)

-- So it is with the indexes of variables, objects and signals.
abbrev pub AreIndexesOf : Names → Option (List (List ℕ)) → Option (List (List ℕ)) → Option (List (List ℕ)) → Type 0
AreIndexesOf names vars objects signals =
    IsIndexOf names.vars vars × IsIndexOf names.objects objects × IsIndexOf (map (λ d. d.name) names.signals) signals
