-- A heritage as its callers see it.
use Rattle.pssm_heritage.specs.declared.numbers.Numbers.{Numbers}
use Rattle.pssm_heritage.specs.Heritages.{Numbering}

abbrev pub numbering : Numbers → Numbering
numbering n = record { rows = n.rows.items; firsts = n.firsts.items }
