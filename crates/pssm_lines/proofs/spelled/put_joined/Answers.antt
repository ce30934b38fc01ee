use Rattle.pssm_lines.proofs.Joined.{joined_on}
use Rattle.pssm_lines.proofs.spelled.put_joined.Goals as goal

pub returns-in_ok-put-in-len1-up : goal.returns-in_ok-put-in-len1-up
returns-in_ok-put-in-len1-up g c =
    joined_on c.args.between g.T.Spelled.spelling c.args.parts.now c.first-item.result c.put_each.result c.args.text.now.items c.put.new.text.items c.put_each.new.text.items
    c.in-len1-up.len_at_least c.first-item.is c.in_ok-put-in-len1-up.ensures c.put_each.ensures
