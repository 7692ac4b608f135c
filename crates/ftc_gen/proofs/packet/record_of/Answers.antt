use Rattle.std.proofs.Common.{refl}
use Rattle.ftc_gen.proofs.packet.record_of.Goals as goal

pub returns : goal.returns
returns c = rw (
  c.to_le_bytes.ensures,
  c.to_be_bytes.ensures,
  c.to_be_bytes-2.ensures,
  c.to_be_bytes-3.ensures,
  c.to_be_bytes-4.ensures,
  c.ipv4_checksum.ensures,
  c.udp_checksum.ensures,
  c.host_of-host.ensures,
  c.port_of-port.ensures,
) refl
