use Rattle.pssm_journal.proofs.NamedLines.{written}
use Rattle.pssm_journal.proofs.writing.put_entry.Goals as goal

-- the line of the entry, and its line feed
pub returns : goal.returns
returns c =
    written c.args.setting.now c.args.entry.now c.args.text.now.items c.put_named.new.text.items c.push.new.self.items c.requires.differ c.requires.names c.look.ensures
    c.in_ok-put_named.ensures c.in_ok-push.ensures.items
