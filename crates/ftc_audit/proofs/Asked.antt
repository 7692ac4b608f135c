-- What a rule's visit is, one read after another.
use Rattle.std.proofs.Common.{◌≡◌, ◌∙◌, ℕ, Bool, List, [], ◌∷◌, Option, refl, ap}
use Rattle.ftc_base.specs.declared.ask.Answer.{Answer}
use Rattle.ftc_base.specs.declared.ask.Ask.TheVariants.{Read, Finish}
use Rattle.ftc_base.specs.declared.ask.Finish.{Finish as End}
use Rattle.ftc_packet.specs.declared.flow.Flow.{Flow}
use Rattle.ftc_packet.specs.Flow.{flow_found}
use Rattle.ftc_store.specs.Store.{Content}
use Rattle.ftc_mbox.specs.declared.rule.Rule.{Rule}
use Rattle.ftc_mbox.specs.Ask.{ask, ask_of}
use Rattle.ftc_mbox.specs.Change.{packet_after}
use Rattle.ftc_serial.specs.declared.visit.Asked.{Asked}
use Rattle.ftc_serial.specs.Take.{asked, answer_at, ended, taken}
use Rattle.ftc_serial.proofs.Asking.{read_more, read_end}

pub of_flow : (rule : Rule) (packet : List ℕ) (found : Option Flow) (answers : List Answer) → flow_found packet ≡ found
    → ask rule packet answers ≡ ask_of rule found answers
unfolding ask
of_flow rule packet found answers is = rw is refl

module _ (rule : Rule) (packet : List ℕ) (content : Content) where
  -- what a visit writes, and the packet that goes on
  pub writes_told : (told : Asked) → asked rule packet content ≡ told
      → (taken rule packet content).writes ≡ told.end.writes.items
  writes_told told is = ap (λ (t : Asked). t.end.writes.items) is

  pub packet_told : (told : Asked) → asked rule packet content ≡ told
      → (taken rule packet content).packet ≡ packet_after packet told.end.verdict
  packet_told told is = ap (λ (t : Asked). packet_after packet t.end.verdict) is

  -- after no read, one, two and three
  pub ends_at_once : (end : End) → ask rule packet [] ≡ Finish end → asked rule packet content ≡ ended [] end
  unfolding asked
  ends_at_once end is = read_end rule packet content 7 [] end is

  pub ends_after_one : (key : List ℕ) (change : Bool) (end : End) → ask rule packet [] ≡ Read key change
      → ask rule packet (answer_at content key ∷ []) ≡ Finish end → asked rule packet content ≡ ended
      (answer_at content key ∷ []) end
  unfolding asked
  ends_after_one key change end reads is =
      read_more rule packet content 7 [] key change reads ∙ read_end rule packet content 6
      (answer_at content key ∷ []) end is

  pub ends_after_two : (key next : List ℕ) (change leave : Bool) (end : End) → ask rule packet [] ≡ Read key change
      → ask rule packet (answer_at content key ∷ []) ≡ Read next leave
      → ask rule packet (answer_at content key ∷ answer_at content next ∷ []) ≡ Finish end
      → asked rule packet content ≡ ended (answer_at content key ∷ answer_at content next ∷ []) end
  unfolding asked
  ends_after_two key next change leave end reads more is =
      read_more rule packet content 7 [] key change reads
      ∙ (read_more rule packet content 6 (answer_at content key ∷ []) next leave more
      ∙ read_end rule packet content 5 (answer_at content key ∷ answer_at content next ∷ []) end is)

  pub ends_after_three : (key next last : List ℕ) (change leave also : Bool) (end : End)
      → ask rule packet [] ≡ Read key change
      → ask rule packet (answer_at content key ∷ []) ≡ Read next leave
      → ask rule packet (answer_at content key ∷ answer_at content next ∷ []) ≡ Read last also
      → ask rule packet (answer_at content key ∷ answer_at content next ∷ answer_at content last ∷ []) ≡ Finish end
      → asked rule packet content ≡ ended
      (answer_at content key ∷ answer_at content next ∷ answer_at content last ∷ []) end
  unfolding asked
  ends_after_three key next last change leave also end reads more again is =
      read_more rule packet content 7 [] key change reads
      ∙ (read_more rule packet content 6 (answer_at content key ∷ []) next leave more
      ∙ (read_more rule packet content 5 (answer_at content key ∷ answer_at content next ∷ []) last also again
      ∙ read_end rule packet content 4
      (answer_at content key ∷ answer_at content next ∷ answer_at content last ∷ []) end is))
