-- What `plan` prints for P1, as 01 prints it, byte for byte; for P7, which has a carried entry and an empty row; and for P2, which is refused.
use Rattle.std.specs.Prelude.{◌≡◌}
use Rattle.text.specs.Text.{ascii}
use Rattle.plan_listing.specs.Listing.{listing}
use Rattle.bench_sheet.specs.Sheet.{bytes_of, P2, P7, p1_printed}

pub record Listed : Type 0 where
  -- "For P1 the request is .. and it prints"
  pub p1_listed : listing p1_printed ≡ ascii "frame 20 cycle 40 rows 2\n0 20 0.0 1.0 2.0\n1 10 0.1 1.1\n"
  pub p7_listed : listing (bytes_of P7) ≡ ascii "frame 5 cycle 10 rows 2\n0 2 0.0+\n1 0\n"
  pub p2_listed : listing (bytes_of P2) ≡ ascii "refused 9\n"
