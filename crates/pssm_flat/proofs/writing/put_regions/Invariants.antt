use Rattle.std.proofs.Common.{◌≡◌, ◌++◌, drop}
use Rattle.pssm_flat.specs.Text.{text_of, numbered, region_lines}
use Rattle.pssm_flat.proofs.writing.put_regions.Given as goal

abbrev pub invariant-loop-number : goal.invariant-loop-number
invariant-loop-number l = l.text.items ++ text_of (numbered (region_lines) l.number (drop l.number l.machine.regions)) ≡ l.fn.text.items ++ text_of (numbered (region_lines) 0 l.machine.regions)
