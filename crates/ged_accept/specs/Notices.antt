-- What is told of a document that is accepted: its notices, each by its line.
use Rattle.std.specs.Prelude.{◌≡◌, ℕ, List, [], ◌∷◌, ◌++◌, ◌⊎◌, ◌↔◌, codes, decimal, map}
use Rattle.ged_line.specs.Bytes.{Bytes, line_feed}
use Rattle.ged_tree.specs.Trees.{Trees}
use Rattle.ged_link.specs.Links.{IsAmong}
use Rattle.ged_link.specs.Notices.{AreRising, OneWayAt, one_way_notice}
use Rattle.ged_link.specs.declared.notices.Notice.{Notice}
use Rattle.ged_link.specs.declared.notices.NoticeKind.{NoticeKind}
use Rattle.ged_link.specs.declared.notices.NoticeKind.TheVariants.{OneWay, Unlisted}
use Rattle.ged_schema.specs.Unlisted.{UnlistedAt, unlisted_notice}

-- the notice is that of a structure of the document: a link in one direction only, or an unlisted tag
abbrev pub IsNoticeOf : Trees → Notice → Type 0
IsNoticeOf document notice =
    ((place : ℕ) × OneWayAt document place × (notice ≡ one_way_notice document place))
    ⊎ ((place : ℕ) × UnlistedAt document place × (notice ≡ unlisted_notice document place))

-- the lines of notices
abbrev pub lines_told : List Notice → List ℕ
lines_told notices = map (λ notice. notice.line) notices

-- all notices of the document, and no other, by their lines, of which no two are the same
pub record AreNotices (document : Trees) (notices : List Notice) : Type 0 where
  pub rising : AreRising (lines_told notices)
  pub each : (notice : Notice) → IsAmong notice notices ↔ IsNoticeOf document notice

abbrev pub notice_words : NoticeKind → Bytes
notice_words OneWay = codes "one-way link"
notice_words Unlisted = codes "unlisted tag"

-- the line that tells a notice
abbrev pub notice_line : Notice → Bytes
notice_line notice = codes "line " ++ decimal notice.line ++ codes ": " ++ notice_words notice.kind ++ line_feed ∷ []

-- the lines that tell notices
abbrev pub notice_lines : List Notice → Bytes
notice_lines [] = []
notice_lines (notice ∷ notices) = notice_line notice ++ notice_lines notices

-- the text tells the document's notices, and then that it is accepted
abbrev pub IsVerdict : Trees → Bytes → Type 0
IsVerdict document text =
    (notices : List Notice) × AreNotices document notices × (text ≡ notice_lines notices ++ (codes "accepted" ++ line_feed ∷ []))
