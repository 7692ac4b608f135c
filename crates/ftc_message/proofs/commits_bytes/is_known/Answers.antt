use Rattle.std.proofs.Common.{rules, ◌≡◌, ◌∙◌, ℕ, ap}
use Rattle.std.specs.Prelude.{not, is_some}
use Rattle.std.specs.List.{list_any}
use Rattle.ftc_vector.specs.Commits.{vector_of}
use Rattle.ftc_message.specs.Spelling.{not_zero}
use Rattle.ftc_message.proofs.CommitLaws.{any_known}
use Rattle.ftc_message.proofs.commits_bytes.is_known.Goals as goal

pub returns : goal.returns
returns c =
    let is : c.unwrap-group.result ≡ c.args.place = search rules in
    ap not c.is_zero.ensures ∙ any_known (vector_of c.args.commits.now c.unwrap-group.result)
    ∙ ap (λ (place : ℕ). list_any is_some (not_zero (vector_of c.args.commits.now place))) is
