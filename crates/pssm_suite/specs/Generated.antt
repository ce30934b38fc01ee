-- The generated model of a number n, and the stimuli for it: a circle of n States that sends on what it takes, and a State whose two regions go to and fro.
-- The text is the flat one, line by line.
use Rattle.std.specs.Prelude.{ℕ, ◌+◌, ◌==◌, List, [], ◌∷◌, ◌++◌, map, replicate, codes, if◌then◌else◌}
use Rattle.std.specs.List.{flat_map, range_with_len}
use Rattle.std.specs.Fmt.{decimal}
use Rattle.pssm_semantics.specs.declared.stimulus.Stimulus.{Stimulus}
use Rattle.pssm_flat.specs.Text.{text_of}

-- 1 to n
abbrev pub up_to : ℕ → List ℕ
up_to n = range_with_len 1 n

-- ---- the class `Front`: an initial vertex, and n States in a circle

-- State i: `vertex vI r0 state`
abbrev pub state_line : ℕ → List ℕ
state_line i = codes "vertex v" ++ (decimal i ++ codes " r0 state")

-- the State behind State i in the circle of n: behind the last is the first
abbrev pub next_state : ℕ → ℕ → ℕ
next_state n i = if i == n then 1 else i + 1

-- `transition tI vI vJ external`, where State j is behind State i
abbrev pub step_line : ℕ → ℕ → List ℕ
step_line n i = codes "transition t" ++ (decimal i ++ (codes " v" ++ (decimal i ++ (codes " v" ++ (decimal (next_state n i) ++ codes " external")))))

-- the step from State i: each takes a `Go`, and sends one on
abbrev pub step_lines : ℕ → ℕ → List (List ℕ)
step_lines n i = step_line n i ∷ codes "on Go" ∷ codes "effect send b.Go();" ∷ []

-- ---- the whole model

abbrev pub head_lines : List (List ℕ)
head_lines = codes "pssm-flat 1" ∷ codes "signal Go 0" ∷ codes "class Front" ∷ codes "class Back" ∷ codes "object a Front" ∷ codes "object b Back" ∷ []

abbrev pub front_lines : ℕ → List (List ℕ)
front_lines n =
    codes "machine Front"
    ∷ codes "region r0 top"
    ∷ codes "vertex v0 r0 initial"
    ∷ (map state_line (up_to n) ++ (codes "transition t0 v0 v1 external" ∷ flat_map (step_lines n) (up_to n)))

-- a State of two regions, in each of which a `Go` leads from one State to another and the next one back
abbrev pub back_lines : List (List ℕ)
back_lines =
    codes "machine Back"
    ∷ codes "region r0 top"
    ∷ codes "region r1 v1"
    ∷ codes "region r2 v1"
    ∷ codes "vertex v0 r0 initial"
    ∷ codes "vertex v1 r0 state S"
    ∷ codes "vertex v2 r1 initial"
    ∷ codes "vertex v3 r1 state P"
    ∷ codes "vertex v4 r1 state P2"
    ∷ codes "vertex v5 r2 initial"
    ∷ codes "vertex v6 r2 state R"
    ∷ codes "vertex v7 r2 state R2"
    ∷ codes "transition t0 v0 v1 external"
    ∷ codes "transition t1 v2 v3 external"
    ∷ codes "transition t2 v5 v6 external"
    ∷ codes "transition t3 v3 v4 external"
    ∷ codes "on Go"
    ∷ codes "transition t4 v6 v7 external"
    ∷ codes "on Go"
    ∷ codes "transition t5 v4 v3 external"
    ∷ codes "on Go"
    ∷ codes "transition t6 v7 v6 external"
    ∷ codes "on Go"
    ∷ []

-- the lines of the model, from the header to the end
unfoldable pub generated_lines : ℕ → List (List ℕ)
generated_lines n = head_lines ++ (front_lines n ++ (back_lines ++ codes "end" ∷ []))

-- the bytes of these lines
unfoldable pub generated_text : ℕ → List ℕ
generated_text n = text_of (generated_lines n)

-- ---- the stimuli

-- `a.Go()`: object 0, signal 0, no argument
abbrev pub go : Stimulus
go = record { object = record { 0 = 0 }; signal = record { 0 = 0 }; args = [] }

-- n times `a.Go()`
abbrev pub generated_stimuli : ℕ → List Stimulus
generated_stimuli n = replicate n go
