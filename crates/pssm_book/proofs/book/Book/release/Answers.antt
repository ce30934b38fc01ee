-- Each clause is a part of what the desk has given back.
use Rattle.pssm_book.proofs.SeenLaws.{release_seen}
use Rattle.pssm_book.proofs.book.Book.release.Goals as goal

pub returns-clause-given_back : goal.returns-clause-given_back
returns-clause-given_back g c =
    let says = release_seen c.self.inside.desk c.give_back.new.self c.self.inside.tally.total c.args.self.now c.self.view_is c.args.object c.args.task
    c.give_back.ensures.given in says.given_back

pub returns-clause-unclaimed : goal.returns-clause-unclaimed
returns-clause-unclaimed g c =
    let says = release_seen c.self.inside.desk c.give_back.new.self c.self.inside.tally.total c.args.self.now c.self.view_is c.args.object c.args.task
    c.give_back.ensures.given in says.unclaimed
