-- What the work of a message at a server says of its jobs there, and where these are.
use Rattle.std.proofs.Common.{◌≡◌, ◌∙◌, ℕ, Bool, true, Option, Some, None, refl, sym, ap, subst}
use Rattle.std.specs.Prelude.{◌↔◌}
use Rattle.ftc_journal.specs.declared.job.Job.{Job}
use Rattle.ftc_server.specs.declared.server.Server.{Server}
use Rattle.ftc_server.specs.declared.work.Work.{Work}
use Rattle.ftc_server.specs.Looks.{work_in}
use Rattle.ftc_jobs.specs.Works.{work_at}

-- a work is a fact, where it is at a server that is up, and where the fact isn't so at one that is down
pub at_slot : (Fact : Type 0) (slot : Option Server) (origin : ℕ) (work : Work) →
    ((live : Server) → slot ≡ Some live → (work_in live origin ≡ Some work) ↔ Fact) → (slot ≡ None → Fact → ⊥) →
    (work_at slot origin ≡ Some work) ↔ Fact
at_slot Fact None origin work up down = ((λ same. absurd cc), (λ fact. absurd (down refl fact)))
at_slot Fact (Some live) origin work up down = up live refl

-- a test of the work that was found is the test of whether it is that one
pub tested : (Fact : Type 0) (found : Option Work) (one work : Work) (test : Bool) → found ≡ Some one →
    (test ≡ true) ↔ (one ≡ work) → (found ≡ Some work) ↔ Fact → (test ≡ true) ↔ Fact
tested Fact found one work test is tests says = (
  (λ so. says.0 (is ∙ ap (λ (w : Work). Some w) (tests.0 so))),
  (λ fact. let same = sym is ∙ says.1 fact in tests.1 cc),
)

-- what is so of a job of the server and the origin is so of one whose server and origin are these
pub at_its_place : (P : Job → Type 0) (make : ℕ → ℕ → Job) (server origin at own : ℕ) → at ≡ server → own ≡ origin →
    P (make server origin) → P (make at own)
at_its_place P make server origin at own at_is own_is so =
    subst (λ (a : ℕ). P (make a own)) (sym at_is) (subst (λ (o : ℕ). P (make server o)) (sym own_is) so)
