-- A desk's refusal as that of a put.
use Rattle.ftc_outside.specs.declared.desk.DeskError.{DeskError}
use Rattle.ftc_outside.specs.declared.desk.DeskError.TheVariants as error
use Rattle.ftc_stream.specs.declared.fault.PutFault.{PutFault}
use Rattle.ftc_stream.specs.declared.fault.PutFault.TheVariants as fault

abbrev pub fault_of : DeskError → PutFault
fault_of error.Failed = fault.Failed
fault_of error.NoMemory = fault.NoMemory
