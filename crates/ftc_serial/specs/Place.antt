-- Where a packet is, without its bytes.
use Rattle.ftc_serial.specs.declared.position.Position.{Position}
use Rattle.ftc_serial.specs.declared.position.Position.TheVariants as position
use Rattle.ftc_serial.specs.declared.position.Place.{Place}
use Rattle.ftc_serial.specs.declared.position.Place.TheVariants as place

abbrev pub place_of : Position → Place
place_of (position.Waiting server bytes) = place.Waiting server
place_of (position.Passed bytes) = place.Passed
place_of (position.Filtered server) = place.Filtered server
place_of position.Released = place.Released
