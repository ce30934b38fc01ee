use Rattle.pssm_load.proofs.ReadBack.{flat_again, loaded_again, own_text}
use Rattle.pssm_load.proofs.laws.flat_reads_back.Goals as goal

pub returns-clause-read : goal.returns-clause-read
returns-clause-read c =
    flat_again (record { one_role = c.one_role.ensures; named = c.named_draft.ensures; variable = c.one_notion_of_variable.ensures })
    c.one_reading.ensures.one_setting c.one_reading.ensures.not_both

pub returns-clause-loaded : goal.returns-clause-loaded
returns-clause-loaded c =
    loaded_again (record { one_role = c.one_role.ensures; named = c.named_draft.ensures; variable = c.one_notion_of_variable.ensures })
    c.one_load.ensures.setting c.one_load.ensures.apart

pub returns-clause-unchanged : goal.returns-clause-unchanged
returns-clause-unchanged c = own_text
