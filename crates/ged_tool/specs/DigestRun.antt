-- The line that tells the digest of a file, in the form of sha256sum, and the run that writes it.
use Rattle.std.specs.Prelude.{◌≡◌, ℕ, ◌==◌, ◌||◌, Bool, Option, [], ◌∷◌, ◌++◌, codes, if◌then◌else◌}
use Rattle.std.specs.List.{list_any}
use Rattle.hex.specs.Hex.{encode_lower}
use Rattle.ged_line.specs.Bytes.{Bytes, carriage_return, line_feed}
use Rattle.ged_schema.specs.declared.profile.Profile.{Profile}
use Rattle.ged_canon.specs.declared.edition.Edition.{Edition}
use Rattle.ged_accept.specs.Accepted.{FileFaultAt}
use Rattle.ged_tool.specs.Digest.{IsDigest}
use Rattle.ged_tool.specs.Kept.{IsKeptRunOf}
use Rattle.ged_faults.specs.declared.faults.Outcome.{Outcome}

abbrev pub backslash : ℕ
backslash = 0x5C

-- a byte that a name on a line cannot have as it is: it would end the line, or be taken for what stands for such a byte
abbrev pub is_escaped : ℕ → Bool
is_escaped byte = (byte == backslash) || ((byte == line_feed) || (byte == carriage_return))

-- a byte of a name: a backslash is told by two, LF by a backslash and n, CR by a backslash and r
abbrev pub name_byte : ℕ → Bytes
name_byte byte =
    if byte == backslash then backslash ∷ backslash ∷ [] else
    if byte == line_feed then backslash ∷ codes "n" else
    if byte == carriage_return then backslash ∷ codes "r" else byte ∷ []

abbrev pub name_on_line : Bytes → Bytes
name_on_line [] = []
name_on_line (byte ∷ name) = name_byte byte ++ name_on_line name

-- the line: a backslash where a byte of the name is escaped, the digest in hexadecimal, two spaces, and the name
abbrev pub digest_line : (digest name : Bytes) → Bytes
digest_line digest name =
    (if list_any is_escaped name then backslash ∷ [] else []) ++ encode_lower digest ++ codes "  " ++ name_on_line name ++ line_feed ∷ []

-- the text tells the digest of a file of these bytes and this name
abbrev pub TellsDigest : Profile → Edition → (name bytes text : Bytes) → Type 0
TellsDigest profile edition name bytes text = (digest : Bytes) × IsDigest profile edition bytes digest × (text ≡ digest_line digest name)

-- a run over one file that is to tell its digest, and what is kept of the bytes that came
abbrev pub IsKeptDigestRun : Profile → Edition → (name : Bytes) → ℕ → (to_come left taken holds : Option Bytes) → Outcome → (bytes : Bytes) → Type 0
IsKeptDigestRun profile edition name = IsKeptRunOf (TellsDigest profile edition name) (FileFaultAt profile)
