-- The numbers by which C tells settings.
use Rattle.std.specs.Prelude.{ℕ}
use Rattle.ged_schema.specs.declared.profile.Profile.{Profile}
use Rattle.ged_schema.specs.declared.profile.Profile.TheVariants.{Lenient, Strict}
use Rattle.ged_canon.specs.declared.edition.Edition.{Edition}
use Rattle.ged_canon.specs.declared.edition.Edition.TheVariants.{First, Second}

-- the sum of 1 for the strict profile and 2 for the second edition
abbrev pub settings_number : Profile → Edition → ℕ
settings_number Lenient First = 0
settings_number Strict First = 1
settings_number Lenient Second = 2
settings_number Strict Second = 3

-- the largest number of settings
abbrev pub last_settings : ℕ
last_settings = 3
