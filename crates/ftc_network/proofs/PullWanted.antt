-- What a pull wants of the two ends of a link, and what it makes of them.
use Rattle.std.proofs.Common.{◌≡◌, ◌<◌, ◌≤◌, ◌-◌, ◌^◌, ◌∙◌, ℕ, Bool, true, List, [], ◌∷◌, length, Option, Some, None}
use Rattle.std.proofs.Common.{sym, ap, subst, arith}
use Rattle.std.proofs.Props.{props}
use Rattle.std.proofs.Math.Bool.{Bool-set}
use Rattle.std.proofs.Math.Bridge.{le_prop}
use Rattle.std.proofs.Math.Nat.{ℕ_set}
use Rattle.std.specs.Coded.{Coded-set, coded_list, coded_ℕ}
use Rattle.std.specs.List.{list_all, list_any}
use Rattle.ftc_journal.specs.declared.event.Event.{Event}
use Rattle.ftc_journal.specs.declared.event.Event.TheVariants.{Pull}
use Rattle.ftc_message.specs.Logged.{Logged}
use Rattle.ftc_replica.specs.InTurn.{AreReadyInTurn}
use Rattle.ftc_ring.specs.Ring.{RingShape, next_of}
use Rattle.ftc_vector.specs.Vector.{raised}
use Rattle.ftc_protocol.specs.Setting.{Setting, servers, shape, is_tail}
use Rattle.ftc_protocol.specs.State.{ChainState, opening}
use Rattle.ftc_protocol.specs.Legal.{IsLegal}
use Rattle.ftc_protocol.specs.Next.{next, is_news}
use Rattle.ftc_protocol.specs.Run.{state_after}
use Rattle.ftc_ties.specs.Servers.{is_shared}
use Rattle.ftc_ties.proofs.Serving.{IsSteadyState}
use Rattle.ftc_server.specs.declared.recovering.GroupReplica.{GroupReplica}
use Rattle.ftc_server.specs.declared.server.Server.{Server}
use Rattle.ftc_server.specs.Looks.{is_later_of, replica_in}
use Rattle.ftc_server.specs.State.{ServerState}
use Rattle.ftc_server.specs.Steps.{HasInstalled, HasRoomed}
use Rattle.ftc_standing.proofs.Lasting.{IsFirmState}
use Rattle.ftc_refinement.specs.Contents.{IsServerAt}
use Rattle.ftc_refinement.specs.Pulled.{ArePulled}
use Rattle.ftc_refinement.proofs.Ring.{EndsAsSaid}
use Rattle.ftc_network.specs.Pulling.{is_shared_by, lacking, gains_some, MayPullOne, MayPullBetween, AreGains}
use Rattle.ftc_network.specs.Pulling.{IsOfLater, SlotHasInstalled}
use Rattle.ftc_network.specs.Stand.{IsSlot, AreReady, RunNothingElse}
use Rattle.ftc_network.proofs.GainedVisits.{gains_same}
use Rattle.ftc_network.proofs.GroupNews.{made, news_same, are_later}
use Rattle.ftc_network.proofs.ReadySlots.{same_runs}
use Rattle.ftc_network.proofs.PulledServer.{server_follows}
use Rattle.ftc_network.proofs.SharedGroups.{ready, reach}

-- ---- what is wanted is a proposition

ready_prop : (most : ℕ) (vector : List ℕ) (logs : List Logged) → IsProp (AreReadyInTurn most vector logs)
ready_prop most vector [] = hlevel props
ready_prop most vector (log ∷ logs) =
    let rest = ready_prop most (raised vector log.changed) logs in hlevel (props, le_prop, ℕ_set, rest)

one_prop : (sender receiver : Server) (group : ℕ) → IsProp (MayPullOne sender receiver group)
one_prop sender receiver group =
    let turn = ready_prop (2 ^ 64 - 2) (replica_in receiver group).vector (lacking sender receiver group) in
    let vectors : IsSet (List ℕ) = Coded-set (coded_list coded_ℕ) in
    hlevel (props, turn, vectors)

pub between_prop : (ring : RingShape) (one other : Option Server) → IsProp (MayPullBetween ring one other)
between_prop ring None other = hlevel props
between_prop ring (Some sender) None = hlevel props
between_prop ring (Some sender) (Some receiver) = hlevel (props, le_prop, one_prop sender receiver)

pub later_prop : (slot : Option Server) (replicas : List GroupReplica) → IsProp (IsOfLater slot replicas)
later_prop None replicas = hlevel props
later_prop (Some server) replicas = Bool-set (list_all (is_later_of server.others.items) replicas) true

-- ---- numbers are few

few_numbers : (most journal events : ℕ) → most ≤ journal → events ≡ journal → events < 2 ^ 64 - 1 → most ≤ 2 ^ 64 - 2
few_numbers most journal events first same few = omega (arith, first, same, few)

module _ (c : Setting) (s : ChainState) (h : IsSteadyState c s) (link : ℕ) (legal : IsLegal c s (Pull link)) where
  -- a trace of a run of few events is short
  pub trace_few : ((setting : Setting) (journal : List Event) →
      length (state_after setting (opening setting) journal).trace ≤ length journal) →
      ((setting : Setting) (journal : List Event) →
      (state_after setting (opening setting) journal).events ≡ length journal) →
      s.events < 2 ^ 64 - 1 → length s.trace ≤ 2 ^ 64 - 2
  trace_few short counted few =
      few_numbers (length s.trace) (length h.run.journal) s.events
      (subst (λ (t : ChainState). length t.trace ≤ length h.run.journal) h.run.reaches (short c h.run.journal))
      (subst (λ (t : ChainState). t.events ≡ length h.run.journal) h.run.reaches (counted c h.run.journal)) few

  -- a pull may be made between the ends of the link
  pub may_pull : ((most more : ℕ) (vector : List ℕ) (logs : List Logged) → most ≤ more →
      AreReadyInTurn most vector logs →
      AreReadyInTurn more vector logs) → length s.trace ≤ 2 ^ 64 - 2 → (ring : RingShape) → ring ≡ shape c →
      (one other : Option Server) → IsSlot c s link one → IsSlot c s (next_of (servers c) link) other →
      MayPullBetween ring one other
  may_pull more few ring same None other down is = tt
  may_pull more few ring same (Some sender) None sends down = tt
  may_pull more few ring same (Some sender) (Some old) sends is = record {
    sender_inside = subst (λ (r : RingShape). sender.id < r.servers) (sends.at.ring ∙ sym same) sender.within;
    receiver_inside = subst (λ (r : RingShape). old.id < r.servers) (is.at.ring ∙ sym same) old.within;
    each = λ group inside shared.
        let below : group < servers c = subst (λ (r : RingShape). group < r.servers) same inside in
        let both : is_shared c group link (next_of (servers c) link) ≡ true =
        ap (λ n. is_shared c group n (next_of (servers c) link)) (sym sends.at.number_is)
        ∙ (ap (λ n. is_shared c group sender.id n) (sym is.at.number_is)
        ∙ (ap (λ r. is_shared_by r group sender.id old.id) (sym same) ∙ shared)) in
        record {
          ready = more (length s.trace) (2 ^ 64 - 2) (replica_in old group).vector (lacking sender old group) few
              (ready c s h link legal sender old sends.at is.at group below both);
          reach = reach c s h link legal sender old sends.at is.at group below both;
        };
  }

  -- the receiver is a later member of the groups whose replicas it gets
  pub later_so : (ring : RingShape) → ring ≡ shape c → (one other : Option Server) (replicas : List GroupReplica)
      (gained : Bool) → IsSlot c s link one → IsSlot c s (next_of (servers c) link) other →
      AreGains ring one other replicas gained → IsOfLater other replicas
  later_so ring same one None replicas gained sends is gains = tt
  later_so ring same None (Some old) replicas gained down is gains = absurd (let up = legal.0.0 in cc)
  later_so ring same (Some sender) (Some old) replicas gained sends is gains =
      ap (list_all (is_later_of old.others.items))
      (gains.0 ∙ news_same c s h link legal sender old sends.at is.at ring same)
      ∙ are_later c s h link legal sender old sends.at is.at

-- ---- what comes of it

module _ (c : Setting) (s : ChainState) (f : IsFirmState c s) (ends : EndsAsSaid) (link : ℕ)
    (legal : IsLegal c s (Pull link)) where
  abbrev receiver : ℕ
  receiver = next_of (servers c) link

  -- the receiver stands for what is there after it, and gained something exactly where there is news
  pub pull_follows : ((tail : ℕ) (old new sender : Server) (news : List GroupReplica) → tail < servers c →
      is_tail c tail receiver ≡ true → is_shared c tail link receiver ≡ true →
      IsServerAt c s receiver old → IsServerAt c s link sender → ArePulled c link old sender news →
      HasInstalled old new news → IsServerAt c (next c s (Pull link)) receiver new) →
      ((old new : Server) → IsServerAt c (next c s (Pull link)) receiver old → HasRoomed old new →
      IsServerAt c (next c s (Pull link)) receiver new) →
      ((old new : Server) → IsServerAt c s receiver old → IsServerAt c (next c s (Pull link)) receiver new →
      RunNothingElse old new → AreReady old → AreReady new) →
      (ring : RingShape) → ring ≡ shape c →
      (one other now : Option Server) (replicas : List GroupReplica) (gained : Bool) →
      IsSlot c s link one → IsSlot c s receiver other → AreGains ring one other replicas gained →
      SlotHasInstalled other now replicas →
      IsSlot c (next c s (Pull link)) receiver now × (gained ≡ list_any (is_news c s link receiver) s.trace)
  pull_follows installs same_still keeps ring same None other now replicas gained down is gains done =
      absurd (let up = legal.0.0 in cc)
  pull_follows installs same_still keeps ring same (Some sender) None now replicas gained sends down gains done =
      absurd (let up = legal.0.1 in cc)
  pull_follows installs same_still keeps ring same (Some sender) (Some old) None replicas gained sends is gains done =
      absurd done
  pull_follows installs same_still keeps ring same (Some sender) (Some old)
      (Some new) replicas gained sends is gains done =
      let got = made c s f.steady link legal sender old sends.at is.at in
      let done_so : HasInstalled old new got = subst (HasInstalled old new)
      (gains.0 ∙ news_same c s f.steady link legal sender old sends.at is.at ring same) done in
      let at : IsServerAt c (next c s (Pull link)) receiver new =
      server_follows c s f ends link legal sender old new sends.at is.at done_so
      (λ tail below its shared are. installs tail old new sender got below its shared is.at sends.at are done_so)
      (λ stands roomed. same_still old new stands roomed) in (
        record {
          up = is.up;
          at = at;
          ready = keeps old new is.at at (same_runs old new (ap (λ (t : ServerState). t.head) done_so.rest)) is.ready;
        },
        gains.1 ∙ (ap (λ r. gains_some r sender old) same
            ∙ gains_same c s f.steady link legal sender old sends.at is.at),
      )
