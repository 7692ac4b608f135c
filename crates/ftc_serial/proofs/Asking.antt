-- One more read of a rule that is asked in turn.
use Rattle.std.proofs.Common.{◌≡◌, ℕ, suc, Bool, ◌+◌, ◌-◌, ◌<◌, ◌≤◌, List, [], ◌∷◌, ◌++◌, refl, sym, arith}
use Rattle.ftc_base.specs.declared.ask.Answer.{Answer}
use Rattle.ftc_base.specs.declared.ask.Ask.TheVariants.{Read, Finish}
use Rattle.ftc_base.specs.declared.ask.Finish.{Finish as End}
use Rattle.ftc_mbox.specs.declared.rule.Rule.{Rule}
use Rattle.ftc_mbox.specs.Ask.{ask}
use Rattle.ftc_store.specs.Store.{Content}
use Rattle.ftc_serial.specs.Take.{asked_from, answer_at, ended, stopped}

pub read_more : (rule : Rule) (packet : List ℕ) (content : Content) (next : ℕ) (answers : List Answer) (key : List ℕ)
    (change : Bool) → ask rule packet answers ≡ Read key change →
    asked_from rule packet content (suc next) answers
    ≡ asked_from rule packet content next (answers ++ answer_at content key ∷ [])
unfolding asked_from
read_more rule packet content next answers key change reads = rw (reads, asked_from) refl

pub read_end : (rule : Rule) (packet : List ℕ) (content : Content) (next : ℕ) (answers : List Answer) (end : End) →
    ask rule packet answers ≡ Finish end → asked_from rule packet content (suc next) answers ≡ ended answers end
unfolding asked_from
read_end rule packet content next answers end ends = rw (ends, asked_from) refl

-- the answers of one more turn of the loop, of which there are eight
pub turn : (rule : Rule) (packet : List ℕ) (content : Content) (done : ℕ) (answers more : List Answer) (key : List ℕ)
    (change : Bool) → done < 8 → ask rule packet answers ≡ Read key change →
    more ≡ answers ++ answer_at content key ∷ [] →
    asked_from rule packet content (8 - (done + 1)) more ≡ asked_from rule packet content (8 - done) answers
turn rule packet content done answers more key change within reads is =
    let left : 8 - done ≡ suc (8 - (done + 1)) = omega arith in
    rw (left, is) (sym (read_more rule packet content (8 - (done + 1)) answers key change reads))

pub turn_end : (rule : Rule) (packet : List ℕ) (content : Content) (done : ℕ) (answers : List Answer) (end : End) →
    done < 8 → ask rule packet answers ≡ Finish end →
    ended answers end ≡ asked_from rule packet content (8 - done) answers
turn_end rule packet content done answers end within ends =
    let left : 8 - done ≡ suc (8 - (done + 1)) = omega arith in
    rw left (sym (read_end rule packet content (8 - (done + 1)) answers end ends))

pub turn_last : (rule : Rule) (packet : List ℕ) (content : Content) (done : ℕ) (answers : List Answer) → 8 ≤ done →
    stopped answers (ask rule packet answers) ≡ asked_from rule packet content (8 - done) answers
unfolding asked_from
turn_last rule packet content done answers past =
    let none : 8 - done ≡ 0 = omega arith in
    rw none refl
