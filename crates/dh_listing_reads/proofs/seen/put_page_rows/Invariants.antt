use Rattle.std.proofs.Common.{◌≡◌, ◌++◌, map, take}
use Rattle.dh_listings.specs.ListingTexts.{seen_page_words}
use Rattle.dh_listing_reads.proofs.seen.put_page_rows.Given as goal

abbrev pub invariant-loop-page : goal.invariant-loop-page
invariant-loop-page l = l.rows.items ≡ l.initial.rows.items ++ map seen_page_words (take l.page-index l.pages)
