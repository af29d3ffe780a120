-- The digest of a file that is accepted: the SHA-256 of its canonical bytes (FIPS 180-4).
use Rattle.std.specs.Prelude.{◌≡◌}
use Rattle.sha2.specs.Sha256.{sha256}
use Rattle.ged_line.specs.Bytes.{Bytes}
use Rattle.ged_schema.specs.declared.profile.Profile.{Profile}
use Rattle.ged_canon.specs.declared.edition.Edition.{Edition}
use Rattle.ged_tool.specs.Canon.{IsCanon}

-- the file is accepted, and these are the bytes of its digest
pub record IsDigest (profile : Profile) (edition : Edition) (file digest : Bytes) : Type 0 where
  pub canonical : Bytes
  pub canon : IsCanon profile edition file canonical
  pub hashed : digest ≡ sha256 canonical
