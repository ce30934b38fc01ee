use Rattle.std.proofs.Common.{◌≡◌, ◌∙◌, ap, map, length, arith}
use Rattle.std.proofs.lemmas.Result.{IfOk-weaker}
use Rattle.pssm_totals.specs.Totals.{AreTotals}
use Rattle.pssm_totals.specs.inner.Ways.{total_in}
use Rattle.pssm_totals.proofs.CircleLaws.{totals_read, come_back}
use Rattle.pssm_totals.proofs.totals.totals_of.Goals as goal

pub returns : goal.returns
returns c =
    let width = c.in_ok-visit_all.ensures.settled.noted.width in
    let len : length c.visit_all.new.marks ≡ c.in_ok-marks.marks.len = omega arith in
    let same = c.as_slice.ensures.value ∙ come_back c.in_ok-marks.marks.len c.visit_all.new.marks c.in_ok-marks.marks.items len in
    IfOk-weaker c.read.result
    (λ totals. totals.items ≡ map total_in c.as_slice.result.now)
    (λ totals. AreTotals c.args.extends.now c.args.own.now totals.items)
    (λ totals e. totals_read c.args.extends.now c.args.own.now c.visit_all.new.marks totals.items c.in_ok-visit_all.ensures.settled c.in_ok-visit_all.ensures.done
    (e ∙ ap (map total_in) same))
    c.read.ensures
