-- the span is claimed, and the regions around the anchor are met
use Rattle.std.proofs.Common.{◌<◌, ◌∙◌, sym, subst}
use Rattle.std.proofs.lemmas.Bool.{true≢false}
use Rattle.pssm_routes.proofs.Spreading.{spread_more}
use Rattle.pssm_routes.proofs.spread.spreads.Goals as goal

pub returns-clause-spread : goal.returns-clause-spread
returns-clause-spread c = λ yes before h.
    spread_more c.args.machine.now before c.args.footprint c.in-Some.span c.args.claimed.now c.args.met.now c.meet_around.new.met h c.in-Some.ensures.span
    (λ is. true≢false (sym is ∙ c.if-met-span.false)) (c.meet_around.ensures.around c.if-not-meet_around.false)
    (subst (λ n. c.in-Some.span.0 < n) (sym c.requires.claimed) c.in-Some.ensures.there)
