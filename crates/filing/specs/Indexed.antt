-- What an indexed book means: what its written book does.
use Rattle.book.specs.Books.{Meaning}
use Rattle.filing.specs.declared.indexed.IndexedBook.{IndexedBook}
use Rattle.filing.specs.Written.{written}

abbrev pub indexed : IndexedBook → Meaning
indexed b = written b.book
