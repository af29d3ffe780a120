-- The strict profile, and the notices of a document.
use Rattle.std.proofs.Common.{refl, inl, inr}
use Rattle.ged_link.specs.Notices.{one_way_notice}
use Rattle.ged_link.proofs.CallerLemmas.{one_way_has_place}
use Rattle.ged_schema.specs.Unlisted.{unlisted_notice}
use Rattle.ged_schema.proofs.CallerLemmas.{unlisted_has_place}
use Rattle.ged_accept.specs.Laws.{StrictRefusesNotices}

pub strict_refuses : StrictRefusesNotices
strict_refuses file d = (
  λ h. (
    record { read = h.read; resolved = h.resolved; checked = h.checked.0 },
    record {
      rising = tt;
      each = λ n. (
        λ none. absurd none,
        λ notice. elim notice [
          | inl (p, link, _) ↦ h.checked.1.both_ways ((one_way_has_place d).1 (p, link))
          | inr (p, tag, _) ↦ h.checked.1.all_listed ((unlisted_has_place d).1 (p, tag))
        ],
      );
    },
  ),
  λ h. record {
    read = h.0.read;
    resolved = h.0.resolved;
    checked = (
      h.0.checked,
      record {
        both_ways = λ one. let (p, link) = (one_way_has_place d).0 one in (h.1.each (one_way_notice d p)).1 (inl (p, link, refl));
        all_listed = λ some. let (p, tag) = (unlisted_has_place d).0 some in (h.1.each (unlisted_notice d p)).1 (inr (p, tag, refl));
      },
    );
  },
)
