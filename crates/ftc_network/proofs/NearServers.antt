-- The live servers next to one, by two tests that agree on the ring, and in a state for which the servers stand.
use Rattle.std.proofs.Common.{◌≡◌, ◌<◌, ◌∙◌, ℕ, Bool, true, Option, Some, None, refl, sym, ap, subst}
use Rattle.std.specs.Prelude.{is_some, unwrap_or}
use Rattle.ftc_protocol.specs.Recovery.{previous_live, following_live}
use Rattle.ftc_protocol.specs.Setting.{Setting, servers}
use Rattle.ftc_protocol.specs.State.{ChainState}
use Rattle.ftc_ring.specs.Live.{IsLiveBefore, IsLiveAfter, IsAlone, live_before_of, live_after_of}
use Rattle.ftc_ring.specs.Ring.{RingShape}
use Rattle.ftc_server.specs.declared.server.Server.{Server}
use Rattle.ftc_network.specs.Parts.{NetworkParts, server_in}
use Rattle.ftc_network.specs.Recovering.{is_up, AreNear}
use Rattle.ftc_network.specs.Stand.{IsSlot, IsUp, AreParts}
use Rattle.ftc_network.proofs.OneEach.{up_there}

module _ (size : ℕ) (one other : ℕ → Bool) (server : ℕ)
    (same : (number : ℕ) → number < size → one number ≡ other number) where
  pub before_by : (before : ℕ) → IsLiveBefore size one server before → IsLiveBefore size other server before
  before_by before is = record {
    within = is.within;
    other = is.other;
    up = sym (same before is.within) ∙ is.up;
    nearest = λ number below differs live. is.nearest number below differs (same number below ∙ live);
  }

  pub after_by : (after : ℕ) → IsLiveAfter size one server after → IsLiveAfter size other server after
  after_by after is = record {
    within = is.within;
    other = is.other;
    up = sym (same after is.within) ∙ is.up;
    nearest = λ number below differs live. is.nearest number below differs (same number below ∙ live);
  }

  pub alone_by : IsAlone size one server → IsAlone size other server
  alone_by alone number below differs = sym (same number below) ∙ alone number below differs

pub some_of : {A : Type 0} (option : Option A) → is_some option ≡ true → (item : A) × (option ≡ Some item)
some_of None is = absurd cc
some_of (Some item) is = (item, refl)

-- of servers that stand for a state, those are up that are there
pub up_in : (setting : Setting) (state : ChainState) (parts : NetworkParts) → AreParts setting state parts →
    (number : ℕ) →
    number < servers setting → is_up parts.servers number ≡ state.up number
up_in setting state parts are number below = up_there setting state number (server_in parts.servers number)
    (are.servers_are number below)

-- a number of the ring, as the setting has it and as the servers' ring has it
pub within_ring : (setting : Setting) (state : ChainState) (parts : NetworkParts) → AreParts setting state parts →
    (number : ℕ) → number < servers setting → number < parts.ring.servers
within_ring setting state parts are number below =
    subst (λ (ring : RingShape). number < ring.servers) (sym are.ring) below

pub within_setting : (setting : Setting) (state : ChainState) (parts : NetworkParts) → AreParts setting state parts →
    (number : ℕ) → number < parts.ring.servers → number < servers setting
within_setting setting state parts are number below = subst (λ (ring : RingShape). number < ring.servers) are.ring below

-- the two live servers in a state
pub record AreLive (setting : Setting) (state : ChainState) (server previous following : ℕ) : Type 0 where
  pub before : IsLiveBefore (servers setting) state.up server previous
  pub after : IsLiveAfter (servers setting) state.up server following

pub near_live : (setting : Setting) (state : ChainState) (parts : NetworkParts) → AreParts setting state parts →
    (server previous following : ℕ) → AreNear parts.ring.servers parts.servers server previous following →
    AreLive setting state server previous following
near_live setting state parts are server previous following near =
    record {
      before = before_by (servers setting) (is_up parts.servers) state.up server
          (up_in setting state parts are) previous
          (subst (λ (ring : RingShape). IsLiveBefore ring.servers (is_up parts.servers) server previous) are.ring
          near.before);
      after = after_by (servers setting) (is_up parts.servers) state.up server (up_in setting state parts are) following
          (subst (λ (ring : RingShape). IsLiveAfter ring.servers (is_up parts.servers) server following) are.ring
          near.after);
    }

pub previous_is : (setting : Setting) (state : ChainState) (server previous : ℕ) →
    live_before_of (servers setting) state.up server ≡ Some previous → previous ≡ previous_live setting state server
previous_is setting state server previous found = sym (ap (λ (o : Option ℕ). unwrap_or o server) found)

pub following_is : (setting : Setting) (state : ChainState) (server following : ℕ) →
    live_after_of (servers setting) state.up server ≡ Some following → following ≡ following_live setting state server
following_is setting state server following found = sym (ap (λ (o : Option ℕ). unwrap_or o server) found)

-- the server of a number that is there stands for what is there
pub up_at : (setting : Setting) (state : ChainState) (parts : NetworkParts) → AreParts setting state parts →
    (number : ℕ) (server : Server) → number < servers setting → server_in parts.servers number ≡ Some server →
    IsUp setting state number server
up_at setting state parts are number server below there = subst (IsSlot setting state number) there
    (are.servers_are number below)
