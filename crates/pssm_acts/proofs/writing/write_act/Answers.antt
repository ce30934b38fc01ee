use Rattle.std.proofs.Common.{◌≡◌, ap, refl, ◌∙◌}
use Rattle.pssm_acts.specs.ActText.{act_text}
use Rattle.pssm_acts.proofs.BlockBack.{act_read_back, none_written, some_written}
use Rattle.pssm_acts.proofs.writing.write_act.Goals as goal
use Rattle.pssm_acts.proofs.writing.write_act.Goals.{in_default, in-len1-up+in_ok-put_stmt+in_ok-put_stmts}

pub returns-clause-read_back : goal.returns-clause-read_back
returns-clause-read_back c =
    let is : c.if-as_slice-lt1.text.items ≡ act_text c.args.names.now c.args.marks.now c.args.act.now =
    elim c.if-as_slice-lt1.branch [
      | in_default w ↦
          none_written c.args.names.now c.args.marks.now c.args.act.now c.as_slice.result.now c.if-as_slice-lt1.text.items c.as_slice.ensures w.in_default.len_below (ap (λ t. t.items) w.text-is ∙ c.new-text.ensures.items)
      | in-len1-up+in_ok-put_stmt+in_ok-put_stmts w ↦
          ap (λ t. t.items) w.text-is
          ∙ some_written c.args.names.now c.args.marks.now c.args.act.now c.as_slice.result.now _ w.first-item.result c.new-text.result.items w.put_stmt.new.text.items w.put_stmts.new.text.items
          c.as_slice.ensures w.in-len1-up.len_at_least w.first-item.is refl c.new-text.ensures.items w.in_ok-put_stmt.ensures w.in_ok-put_stmts.ensures
    ] in
    act_read_back c.args.names.now c.args.marks.now c.args.act.now c.if-as_slice-lt1.text.items is
