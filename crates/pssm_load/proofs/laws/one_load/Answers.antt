use Rattle.pssm_load.proofs.OneLoad.{read_once, loads_or_fault, fault_once}
use Rattle.pssm_load.proofs.laws.one_load.Goals as goal

pub returns-clause-setting : goal.returns-clause-setting
returns-clause-setting c = read_once (record {
  flat_setting = c.one_reading.ensures.one_setting;
  flat_apart = c.one_reading.ensures.not_both;
  flat_fault = c.one_reading.ensures.one_fault;
  file_draft = c.one_answer.ensures.draft;
  file_apart = c.one_answer.ensures.apart;
  file_fault = c.one_answer.ensures.fault;
  draft_setting = c.one_setting.ensures.setting;
  draft_apart = c.one_setting.ensures.apart;
  draft_fault = c.one_setting.ensures.fault;
})

pub returns-clause-apart : goal.returns-clause-apart
returns-clause-apart c = loads_or_fault (record {
  flat_setting = c.one_reading.ensures.one_setting;
  flat_apart = c.one_reading.ensures.not_both;
  flat_fault = c.one_reading.ensures.one_fault;
  file_draft = c.one_answer.ensures.draft;
  file_apart = c.one_answer.ensures.apart;
  file_fault = c.one_answer.ensures.fault;
  draft_setting = c.one_setting.ensures.setting;
  draft_apart = c.one_setting.ensures.apart;
  draft_fault = c.one_setting.ensures.fault;
})

pub returns-clause-fault : goal.returns-clause-fault
returns-clause-fault c = fault_once (record {
  flat_setting = c.one_reading.ensures.one_setting;
  flat_apart = c.one_reading.ensures.not_both;
  flat_fault = c.one_reading.ensures.one_fault;
  file_draft = c.one_answer.ensures.draft;
  file_apart = c.one_answer.ensures.apart;
  file_fault = c.one_answer.ensures.fault;
  draft_setting = c.one_setting.ensures.setting;
  draft_apart = c.one_setting.ensures.apart;
  draft_fault = c.one_setting.ensures.fault;
})
