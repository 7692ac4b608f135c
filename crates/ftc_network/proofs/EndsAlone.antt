-- How the only visit that runs at a server ends.
use Rattle.std.proofs.Common.{◌≡◌, ◌≢◌, ◌∙◌, ℕ, List, Option, Some, None, refl, sym, ap, subst}
use Rattle.std.specs.Prelude.{IfSome}
use Rattle.ftc_base.specs.declared.ask.Answer.{Answer}
use Rattle.ftc_server.specs.declared.answers.CommitAnswer.{CommitAnswer}
use Rattle.ftc_server.specs.declared.answers.CommitAnswer.TheVariants.{Done, Wounded, Idle, Unfinished, NoMemory}
use Rattle.ftc_server.specs.declared.server.Server.{Server}
use Rattle.ftc_server.specs.State.{ServerState}
use Rattle.ftc_server.specs.Steps.{EndsVisit}
use Rattle.ftc_txn.specs.Slots.{Running, slot_at, restarted}
use Rattle.ftc_txn.proofs.Kept.{slot_other}
use Rattle.ftc_network.specs.Visiting.{IsUnderWay, VisitsWhole}
use Rattle.ftc_network.proofs.IdleSlots.{all_idle}

-- what holds where there is something holds of what there is
pub if_there : {A : Type 0} (Fact : A → Type 0) (option : Option A) (item : A) → option ≡ Some item →
    IfSome option Fact → Fact item
if_there {A} Fact option item same fact = subst (λ (o : Option A). IfSome o Fact) same fact

module _ (first old new : Server) (worker packet count : ℕ) (is : IsUnderWay first old worker packet count) where
  pub done_whole : (answers : List Answer) → is.running.answers ≡ answers → EndsVisit old new worker Done →
      VisitsWhole first new worker packet answers
  done_whole answers same ends =
      let running : Running = ends.0 in
      let this : running ≡ is.running = let both = sym ends.2.slot ∙ is.runs.slot in cc in
      record {
        before = old;
        stands = is.stands;
        withheld = ap (λ (s : ServerState). s.buffer.items) ends.4.rest ∙ is.withheld;
        running = running;
        runs = ends.2;
        packet_is = ap (λ (r : Running). r.packet) this ∙ is.packet_is;
        answers_are = ap (λ (r : Running). r.answers) this ∙ same;
        end = ends.1;
        asked = ends.3;
        visited = ends.4;
        idle = all_idle old.head.slots new.head.slots worker ends.4.head.slots is.others;
      }

-- the slots that ran nothing run nothing after an end that makes no visit
module _ (old new : Server) (worker : ℕ)
    (idle : (other : ℕ) → other ≢ worker → slot_at old.head.slots other ≡ None) where
  pub others_stay_idle : (answer : CommitAnswer) → answer ≢ Done → EndsVisit old new worker answer → (other : ℕ) →
      other ≢ worker → slot_at new.head.slots other ≡ None
  others_stay_idle Done not ends other differs = absurd (not refl)
  others_stay_idle (Wounded by) not ends other differs =
      ap (λ (s : ServerState). slot_at s.head.slots other) ends.2
      ∙ (slot_other old.head.slots worker other (Some (restarted ends.0)) differs ∙ idle other differs)
  others_stay_idle Idle not ends other differs =
      ap (λ (s : ServerState). slot_at s.head.slots other) ends.1 ∙ idle other differs
  others_stay_idle (Unfinished key) not ends other differs =
      ap (λ (s : ServerState). slot_at s.head.slots other) ends.4 ∙ idle other differs
  others_stay_idle NoMemory not ends other differs =
      ap (λ (s : ServerState). slot_at s.head.slots other) ends.4.rest ∙ idle other differs
