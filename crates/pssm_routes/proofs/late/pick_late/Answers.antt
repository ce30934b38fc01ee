-- The word settles one of the true transitions out of the vertex.
use Rattle.std.proofs.Common.{◌≡◌, length, sym, subst}
use Rattle.pssm_routes.specs.LateStarts.{AreTrueFrom}
use Rattle.pssm_routes.proofs.SettledStarts.{not_past, picked_late, picked_settled}
use Rattle.pssm_routes.proofs.late.pick_late.Goals as goal

pub returns-in-Some : goal.returns-in-Some
returns-in-Some g c =
    let m = c.args.machine.now in
    let origin = c.args.origin in
    let starts = c.as_slice.result.now in
    let counted : c.len.result ≡ length starts = cc (c.len.ensures, c.as_slice.ensures.value) in
    let at = c.in-Some.ensures.lookup in
    record {
      late = λ values tells.
          let are = subst (AreTrueFrom m values origin) (sym c.as_slice.ensures.value) (c.in_ok-starts.ensures.true_ones values tells) in
          picked_late c.requires.rules values origin c.requires.origin c.requires.out starts are c.args.word c.len.result c.place_of.result counted
          c.place_of.ensures.remainder c.in-Some.start.now at.1 c.late_route_by.result (c.late_route_by.ensures values tells);
      settled = λ values tells.
          let are = subst (AreTrueFrom m values origin) (sym c.as_slice.ensures.value) (c.in_ok-starts.ensures.true_ones values tells) in
          picked_settled c.requires.rules values origin c.requires.origin c.requires.out starts are c.args.word c.len.result c.place_of.result counted
          c.place_of.ensures.remainder c.in-Some.start.now at.1 c.late_route_by.result (c.late_route_by.ensures values tells);
    }

pub returns-clause-late : goal.returns-clause-late
returns-clause-late g c values tells =
    let origin = c.args.origin in
    let starts = c.as_slice.result.now in
    let counted : c.len.result ≡ length starts = cc (c.len.ensures, c.as_slice.ensures.value) in
    let are = subst (AreTrueFrom c.args.machine.now values origin) (sym c.as_slice.ensures.value) (c.in_ok-starts.ensures.true_ones values tells) in
    absurd (not_past c.requires.rules values origin c.requires.origin c.requires.out starts are c.args.word c.len.result c.place_of.result counted
    c.place_of.ensures.remainder c.in-None.ensures.lookup.3)

pub returns-clause-settled : goal.returns-clause-settled
returns-clause-settled g c values tells =
    let origin = c.args.origin in
    let starts = c.as_slice.result.now in
    let counted : c.len.result ≡ length starts = cc (c.len.ensures, c.as_slice.ensures.value) in
    let are = subst (AreTrueFrom c.args.machine.now values origin) (sym c.as_slice.ensures.value) (c.in_ok-starts.ensures.true_ones values tells) in
    absurd (not_past c.requires.rules values origin c.requires.origin c.requires.out starts are c.args.word c.len.result c.place_of.result counted
    c.place_of.ensures.remainder c.in-None.ensures.lookup.3)
