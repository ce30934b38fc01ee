use Rattle.std.proofs.Common.{◌≡◌, ◌++◌, ◌∙◌, List, ℕ, IfOk, codes, subst}
use Rattle.pssm_tool.specs.FaultWords.{unread_word}
use Rattle.pssm_tool.specs.FileRefusals.{xmi_line}
use Rattle.pssm_tool.proofs.file_refusal.xmi_text.Goals as goal

-- The element is not read, for a reason that has a name.
pub returns-in-Unsupported : goal.returns-in-Unsupported
returns-in-Unsupported c =
    let word : c.as_bytes.result.now ≡ unread_word c.in-Unsupported.kind = c.as_bytes.ensures.value ∙ c.unread_name.ensures in
    rw c.in-Unsupported.is (subst (λ (w : List ℕ). IfOk c.xmi_words.result (λ text. text ≡ xmi_line c.in-Unsupported.at (codes "Unsupported " ++ w))) word c.xmi_words.ensures)
