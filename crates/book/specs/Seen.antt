-- A book of the code as the definitions see it.
use Rattle.book.specs.declared.Book.TheInside.{Inside}
use Rattle.book.specs.Books.{Book, Sound}

abbrev pub seen : Inside → Book
seen b = record {
  year = b.year;
  areas = b.areas;
  units = b.units;
  commitments = b.commitments;
  obligations = b.obligations;
  posted = b.posted;
}

-- every one that the code makes is sound
abbrev pub IsSound : Inside → Type 0
IsSound b = Sound (seen b)
