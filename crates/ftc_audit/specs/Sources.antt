-- Where released packets come from.
use Rattle.std.specs.Prelude.{ℕ, List, [], ◌∷◌, ◌++◌, length, Option, Some, None, nat_lt, false, codes, decimal}
use Rattle.std.specs.BTreeSet.{insert_key}
use Rattle.std.specs.Ordering.{nat_cmp, ordering_then}
use Rattle.std.specs.declared.cmp.Ordering.{Ordering}
use Rattle.ftc_base.specs.declared.released.Released.{Released}
use Rattle.ftc_outside.specs.Tap.{Face}
use Rattle.ftc_packet.specs.Flow.{flow_found}
use Rattle.ftc_packet.specs.declared.flow.Flow.{Flow}
use Rattle.ftc_audit.specs.declared.endpoint.Endpoint.{Endpoint}

abbrev pub source_in : Option Flow → Option Endpoint
source_in None = None
source_in (Some flow) = Some (record { protocol = flow.protocol; address = flow.source; port = flow.source_port })

-- where a flow packet comes from; none for every other packet
abbrev pub source_of : List ℕ → Option Endpoint
source_of packet = source_in (flow_found packet)

-- by protocol, then by address, then by port
abbrev pub endpoint_cmp : Endpoint → Endpoint → Ordering
endpoint_cmp one other =
    ordering_then (ordering_then (nat_cmp one.protocol other.protocol) (nat_cmp one.address other.address))
    (nat_cmp one.port other.port)

-- the sources with one more, if it isn't there
abbrev pub with_one_source : List Endpoint → Option Endpoint → List Endpoint
with_one_source sources None = sources
with_one_source sources (Some source) = insert_key endpoint_cmp sources source

-- the different sources of the flow packets among these, besides some
abbrev pub with_sources : List Endpoint → List Released → List Endpoint
with_sources sources [] = sources
with_sources sources (one ∷ more) = with_sources (with_one_source sources (source_of one.bytes)) more

abbrev pub sources_of : List Released → List Endpoint
sources_of released = with_sources [] released

-- how many sources may be told, and what was told
pub record Audit : Type 0 where
  pub most : ℕ
  pub told : List Released

-- An audit keeps what it is told, and leaves at a record with which there are more sources than it may have.
abbrev pub audit_face : Audit → Face
audit_face audit = record {
  told = Some audit.told;
  line = codes "audit endpoints " ++ decimal (length (sources_of audit.told));
  leaves = λ one. nat_lt audit.most (length (sources_of (audit.told ++ one ∷ [])));
  constant = false;
}
