-- Files that are the same have one digest.
use Rattle.std.proofs.Common.{◌≡◌, ◌∙◌, ap, sym}
use Rattle.sha2.specs.Sha256.{sha256}
use Rattle.ged_line.specs.Bytes.{Bytes}
use Rattle.ged_schema.specs.declared.profile.Profile.{Profile}
use Rattle.ged_canon.specs.declared.edition.Edition.{Edition}
use Rattle.ged_tool.specs.Canon.{IsCanon}
use Rattle.ged_tool.specs.DigestLaws.{OneDigest, SameDigest, CanonKeepsDigest}
use Rattle.ged_tool.proofs.calls.CanonLaws.{headline}
use Rattle.ged_tool.proofs.laws.Comparing.{same_as_itself, same_by_canon}

-- a file has one list of canonical bytes
one_canon : (profile : Profile) (edition : Edition) (file canonical other : Bytes) → IsCanon profile edition file canonical → IsCanon profile edition file other
    → canonical ≡ other
one_canon profile edition file canonical other h k =
    (same_by_canon profile edition file file canonical other h k).0 (same_as_itself profile edition file h.document h.accepted)

pub same_digest : SameDigest
same_digest profile edition first second digest other same h k =
    let equal : h.canonical ≡ k.canonical = (same_by_canon profile edition first second h.canonical k.canonical h.canon k.canon).0 same in
    h.hashed ∙ ap sha256 equal ∙ sym k.hashed

pub one_digest : OneDigest
one_digest profile edition file digest other h k = h.hashed ∙ ap sha256 (one_canon profile edition file h.canonical k.canonical h.canon k.canon) ∙ sym k.hashed

pub canon_keeps_digest : CanonKeepsDigest
canon_keeps_digest profile edition file canonical digest c =
    let again = (headline profile edition file canonical c).twice_is_once in (
      λ h. record {
        canonical = canonical;
        canon = again.own;
        hashed = h.hashed ∙ ap sha256 (one_canon profile edition file h.canonical canonical h.canon c);
      },
      λ k. record {
        canonical = canonical;
        canon = c;
        hashed = k.hashed ∙ ap sha256 (again.no_other k.canonical k.canon);
      },
    )
