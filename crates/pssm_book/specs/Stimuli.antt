-- The entries that post stimuli.
use Rattle.pssm_semantics.specs.declared.entry.Entry.{Entry}
use Rattle.pssm_semantics.specs.declared.entry.Entry.TheVariants.{Post}
use Rattle.pssm_semantics.specs.declared.stimulus.Stimulus.{Stimulus}

-- the entry that posts a stimulus (this profile's choice)
abbrev pub post_of : Stimulus → Entry
post_of x = Post x.object x.signal x.args
