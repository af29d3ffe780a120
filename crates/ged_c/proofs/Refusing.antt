-- What is told of two files within the limit is what `same_as` says of them.
use Rattle.ged_line.specs.Bytes.{Bytes}
use Rattle.ged_schema.specs.declared.profile.Profile.{Profile}
use Rattle.ged_tool.specs.Same.{IsSameRefusal}
use Rattle.ged_faults.specs.declared.faults.Which.{Which}
use Rattle.ged_faults.specs.declared.faults.Which.TheVariants.{First, Second}
use Rattle.ged_faults.specs.declared.faults.Fault.{Fault}
use Rattle.ged_faults.specs.declared.faults.Fault.TheVariants.{InFile, TooLong, ReadFailed, WriteFailed, Memory}
use Rattle.ged_c.specs.Comparisons.{AreWithin, TellsOfTwo}

pub tells : (profile : Profile) (first second : Bytes) (which : Which) (fault : Fault) → AreWithin first second → IsSameRefusal profile first second which fault → TellsOfTwo profile first second which fault
tells profile first second First (InFile line kind) within refused = (within, refused)
tells profile first second First TooLong within refused = absurd refused
tells profile first second First ReadFailed within refused = (within, refused)
tells profile first second First WriteFailed within refused = (within, refused)
tells profile first second First (Memory error) within refused = (within, refused)
tells profile first second Second (InFile line kind) within refused = (within, refused)
tells profile first second Second TooLong within refused = absurd refused.1
tells profile first second Second ReadFailed within refused = (within, refused)
tells profile first second Second WriteFailed within refused = (within, refused)
tells profile first second Second (Memory error) within refused = (within, refused)
