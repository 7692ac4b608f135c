use Rattle.std.proofs.Common.{rules, ◌≡◌, ◌++◌, ◌∙◌, ℕ, List, sym, ap}
use Rattle.std.proofs.lemmas.List.{append-nil}
use Rattle.ftc_vector.specs.Commits.{vector_of}
use Rattle.ftc_message.specs.Spelling.{marked, not_zero}
use Rattle.ftc_message.proofs.CommitLaws.{none_written, one_added}
use Rattle.ftc_message.proofs.commits_bytes.append_known.Goals as goal

pub returns-then-count-eq0 : goal.returns-then-count-eq0
returns-then-count-eq0 c =
    let vector = vector_of c.args.commits.now c.args.place in
    let is : c.unwrap.result ≡ c.args.place = search rules in
    let same : c.of-vector.result.now ≡ vector = rw is at c.of-vector.ensures.same in
    let count : c.count_not_zero-count.result ≡ marked (not_zero vector) =
    c.count_not_zero-count.ensures.count ∙ ap (λ (numbers : List ℕ). marked (not_zero numbers)) same in
    sym (ap (λ (text : List ℕ). c.args.out.now ++ text)
    (none_written c.args.place vector (sym count ∙ c.if-count-eq0.true)) ∙ append-nil c.args.out.now)

pub returns : goal.returns
returns c =
    let vector = vector_of c.args.commits.now c.args.place in
    let is : c.unwrap.result ≡ c.args.place = search rules in
    let same : c.of-vector.result.now ≡ vector = rw is at c.of-vector.ensures.same in
    let count : c.count_not_zero-count.result ≡ marked (not_zero vector) =
    c.count_not_zero-count.ensures.count ∙ ap (λ (numbers : List ℕ). marked (not_zero numbers)) same in
    let text = one_added c.args.place c.count_not_zero-count.result vector c.args.out.now c.append.new.self
    c.in_ok-append.ensures.ok count c.if-count-eq0.false in
    rw (← text, ← same) c.append_numbers.ensures
