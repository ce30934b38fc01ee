use Rattle.std.proofs.Common.{◌≡◌, sym, ap, subst, ◌∙◌}
use Rattle.pssm_semantics.specs.declared.line.Line.{Line}
use Rattle.pssm_semantics.specs.declared.line.Line.TheVariants as lines
use Rattle.pssm_lines.specs.declared.parts.LineParts.{LineParts}
use Rattle.pssm_lines.specs.Parts.{Shows}
use Rattle.pssm_journal.specs.Entries.{entry_at}
use Rattle.pssm_journal.proofs.entry.plain_entry.Goals as goal

-- a post
pub returns-in-Post : goal.returns-in-Post
returns-in-Post g c = λ line plain shown.
    let is : line ≡ lines.Post c.in-Post.object.now c.in-Post.signal.now c.in-Post.args = subst (λ (p : LineParts). Shows p line) c.in-Post.is shown in
    c.post_entry.ensures c.in-Post.object.now ∙ sym (ap (λ (l : Line). entry_at (g.N.Names.setting c.args.names.now) c.args.own l) is)
