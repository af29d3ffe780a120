-- What settings choose.
use Rattle.ged_schema.specs.declared.profile.Profile.{Profile}
use Rattle.ged_canon.specs.declared.edition.Edition.{Edition}
use Rattle.ged_tool.specs.declared.settings.Settings.{Settings}

-- the profile under which files are judged
abbrev pub profile_of : Settings → Profile
profile_of settings = settings.profile

-- the edition of the canonical form
abbrev pub edition_of : Settings → Edition
edition_of settings = settings.edition
