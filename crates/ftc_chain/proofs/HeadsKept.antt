-- Heads through the calls of a network, and as a contract sees them.
use Rattle.std.proofs.Common.{◌≡◌, ◌∙◌, ℕ, zero, suc, List, [], ◌∷◌, map, Option, Some, None, length, slice_index_or}
use Rattle.std.proofs.Common.{inl, inr, refl, sym, ap, subst, arith}
use Rattle.std.proofs.lemmas.Bool.{cases_eq}
use Rattle.ftc_journal.specs.declared.job.Job.{Job}
use Rattle.ftc_journal.specs.declared.job.Job.TheVariants as job
use Rattle.ftc_protocol.specs.Setting.{Setting}
use Rattle.ftc_protocol.specs.State.{ChainState}
use Rattle.ftc_ring.specs.Ring.{RingShape}
use Rattle.ftc_server.specs.declared.server.Server.{Server}
use Rattle.ftc_txn.specs.Head.{HeadState}
use Rattle.ftc_network.specs.declared.network.Network.{Network}
use Rattle.ftc_network.specs.Slots.{head_of, head_at, runs_in, AreSameHeads, AreOtherHeads, IsIdleHead, RunNoMore}
use Rattle.ftc_network.specs.Stand.{IsNetwork}
use Rattle.ftc_chain.specs.Course.{RunsOnce}
use Rattle.ftc_chain.specs.Doing.{HeadsDone}

-- ---- the list of heads

-- the head of a number in the list of heads is that of the server of that number
pub head_as : (servers : List (Option Server)) (server : ℕ) →
    slice_index_or (map head_of servers) server None ≡ head_of (slice_index_or servers server None)
head_as [] server = refl
head_as (one ∷ servers) zero = refl
head_as (one ∷ servers) (suc server) = head_as servers server

-- as many heads that are the same are the same list
pub same_list : (old new : List (Option Server)) → length new ≡ length old →
    ((server : ℕ) → head_of (slice_index_or new server None) ≡ head_of (slice_index_or old server None)) →
    map head_of new ≡ map head_of old
same_list [] [] size same = refl
same_list [] (other ∷ new) size same = absurd (omega (arith, size))
same_list (one ∷ old) [] size same = absurd (omega (arith, size))
same_list (one ∷ old) (other ∷ new) size same =
    ap (λ (head : Option HeadState). head ∷ map head_of new) (same zero)
    ∙ ap (λ (heads : List (Option HeadState)). head_of one ∷ heads)
    (same_list old new (omega (arith, size)) (λ server. same (suc server)))

-- ---- slots that run no more than before

-- a slot that ran nothing at a server runs nothing there
abbrev pub SlotsRunNoMore : Network → Network → Type 0
SlotsRunNoMore old new = (server : ℕ) → RunNoMore (head_at old server) (head_at new server)

pub same_no_more : (old new : Network) → AreSameHeads old new → SlotsRunNoMore old new
same_no_more old new same server worker none =
    ap (λ (head : Option HeadState). runs_in head worker) (same server) ∙ none

pub others_no_more : (server : ℕ) (old new : Network) → AreOtherHeads server old new →
    RunNoMore (head_at old server) (head_at new server) → SlotsRunNoMore old new
others_no_more server old new others here other worker none = elim (cases_eq other server) [
  | inl same ↦ ap (λ (n : ℕ). runs_in (head_at new n) worker) same
      ∙ here worker (ap (λ (n : ℕ). runs_in (head_at old n) worker) (sym same) ∙ none)
  | inr differs ↦ ap (λ (head : Option HeadState). runs_in head worker) (others other differs) ∙ none
]

-- where there is no head, or one whose slots run nothing, nothing is run
pub none_runs : (head : Option HeadState) (worker : ℕ) → head ≡ None → runs_in head worker ≡ None
none_runs head worker none = ap (λ (h : Option HeadState). runs_in h worker) none

pub idle_runs : (head : Option HeadState) (worker : ℕ) → IsIdleHead head → runs_in head worker ≡ None
idle_runs None worker idle = absurd idle
idle_runs (Some head) worker idle = idle worker

pub done_no_more : (done : Job) (old new : Network) → HeadsDone done old new → SlotsRunNoMore old new
done_no_more (job.Crash server) old new (down, others) =
    others_no_more server old new others (λ worker none. none_runs (head_at new server) worker down)
done_no_more (job.Recover server) old new (idle, others) =
    others_no_more server old new others (λ worker none. idle_runs (head_at new server) worker idle)
done_no_more other old new same = same_no_more old new same

pub once_kept : (old new : Network) → SlotsRunNoMore old new → RunsOnce old → RunsOnce new
once_kept old new fewer once worker one other differs runs =
    fewer other worker (once worker one other differs (λ none. runs (fewer one worker none)))

-- a network that is another
pub once_as : (old new : Network) → new ≡ old → RunsOnce old → RunsOnce new
once_as old new same = subst RunsOnce (sym same)

-- after a job, and then releases
pub once_after : (done : Job) (old room mid new : Network) → room ≡ old → HeadsDone done room mid →
    AreSameHeads mid new →
    RunsOnce old → RunsOnce new
once_after done old room mid new same did stays once =
    once_kept mid new (same_no_more mid new stays)
    (once_kept room mid (done_no_more done room mid did) (once_as old room same once))

-- ---- as many servers

pub same_size : (setting : Setting) (state after : ChainState) (old new : Network) → IsNetwork setting state old →
    IsNetwork setting after new → length new.servers.items ≡ length old.servers.items
same_size setting state after old new stands then =
    new.each_server
    ∙ (ap (λ (ring : RingShape). ring.servers) (then.ring ∙ sym stands.ring)
    ∙ sym old.each_server)

pub then_no_more : (old mid new : Network) → SlotsRunNoMore old mid → SlotsRunNoMore mid new → SlotsRunNoMore old new
then_no_more old mid new one other server worker none = other server worker (one server worker none)

-- what a server's slots ran is given up, and the others run what they ran
pub visited_no_more : (server : ℕ) (old room new : Network) → room ≡ old → AreOtherHeads server room new →
    RunNoMore (head_at room server) (head_at new server) → SlotsRunNoMore old new
visited_no_more server old room new same others here =
    subst (λ (network : Network). SlotsRunNoMore network new) same (others_no_more server room new others here)
