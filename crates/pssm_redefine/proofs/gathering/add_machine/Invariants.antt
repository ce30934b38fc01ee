use Rattle.std.proofs.Common.{◌≡◌, ◌++◌, map}
use Rattle.std.specs.List.{filter_map, range_with_len}
use Rattle.pssm_model.specs.declared.draft_setting.ElementRef.{ElementRef}
use Rattle.pssm_heritage.specs.Heritages.{numbering_of}
use Rattle.pssm_redefine.specs.Gathering.{with_number}
use Rattle.pssm_redefine.proofs.gathering.add_machine.Given as goal

abbrev pub invariant-loop-element : goal.invariant-loop-element
invariant-loop-element l =
    l.all.items ≡ l.initial.all.items ++ filter_map (with_number (numbering_of l.kind l.heritage))
    (map (λ i. let e : ElementRef = record { machine = l.machine; element = i } in e) (range_with_len 0 l.element))
