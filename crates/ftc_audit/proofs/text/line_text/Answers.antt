use Rattle.std.proofs.Common.{◌∙◌, ℕ, List}
use Rattle.std.proofs.lemmas.Result.{IfOk-weaker}
use Rattle.std.specs.Prelude.{decimal, slice_index}
use Rattle.std.specs.Int.{w32, to_be_bytes}
use Rattle.ftc_audit.specs.Text.{protocol_word}
use Rattle.ftc_audit.proofs.Words.{of_line}
use Rattle.ftc_audit.proofs.text.line_text.Goals as goal

pub returns : goal.returns
returns c =
    let line = c.args.line.now in
    let bytes : List ℕ = to_be_bytes w32 line.address in
    IfOk-weaker c.format.result _ _
    (λ text is. is ∙ rw (c.protocol_word-protocol.ensures, c.to_be_bytes.ensures)
    (of_line (decimal line.outside) (protocol_word line.protocol) (decimal (slice_index bytes 0))
    (decimal (slice_index bytes 1)) (decimal (slice_index bytes 2)) (decimal (slice_index bytes 3))
    (decimal line.port))) c.format.ensures.ok
