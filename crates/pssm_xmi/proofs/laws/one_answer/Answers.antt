use Rattle.pssm_xmi.proofs.AnswerLaws.{one_draft, apart_from, one_fault}
use Rattle.pssm_xmi.proofs.laws.one_answer.Goals as goal

pub returns-clause-draft : goal.returns-clause-draft
returns-clause-draft c = one_draft (record {
  tree = c.one_tree.ensures.tree;
  apart = c.one_tree.ensures.apart;
  fault = c.one_tree.ensures.fault;
  role = c.one_role.ensures;
  flaw = c.one_flaw_comes.ensures;
})

pub returns-clause-apart : goal.returns-clause-apart
returns-clause-apart c = apart_from (record {
  tree = c.one_tree.ensures.tree;
  apart = c.one_tree.ensures.apart;
  fault = c.one_tree.ensures.fault;
  role = c.one_role.ensures;
  flaw = c.one_flaw_comes.ensures;
})

pub returns-clause-fault : goal.returns-clause-fault
returns-clause-fault c = one_fault (record {
  tree = c.one_tree.ensures.tree;
  apart = c.one_tree.ensures.apart;
  fault = c.one_tree.ensures.fault;
  role = c.one_role.ensures;
  flaw = c.one_flaw_comes.ensures;
})
