-- The law speaks of what happened, and not of how it is told: two accounts of the same frames keep it both or neither.
use Rattle.std.specs.Prelude.{ℕ, ◌↔◌}
use Rattle.std.proofs.Common.{inl, inr, ⊎_elim}
use Rattle.heater_link.specs.Law.{Unanswered, FirstReply, FirstCopy, UnderWay, Lawful}

module _ (n : ℕ) (C R T A C' R' T' A' : ℕ → Type 0)
    (c : (m : ℕ) → C m ↔ C' m) (r : (m : ℕ) → R m ↔ R' m) (t : (m : ℕ) → T m ↔ T' m) (a : (m : ℕ) → A m ↔ A' m) where
  unanswered : (j m : ℕ) → Unanswered n C R T A j m → Unanswered n C' R' T' A' j m
  unanswered j m o k l h e = o k l h ((a k).1 e)

  unanswered_back : (j m : ℕ) → Unanswered n C' R' T' A' j m → Unanswered n C R T A j m
  unanswered_back j m o k l h e = o k l h ((a k).0 e)

  first_reply : (m : ℕ) → FirstReply n C R T A m → FirstReply n C' R' T' A' m
  first_reply m f = record {
    reply_arrives = (r m).0 f.reply_arrives;
    j = f.j;
    before = f.before;
    copy_arrived = (c f.j).0 f.copy_arrived;
    of_current = unanswered f.j m f.of_current;
    first = λ k l h e. f.first k l h ((r k).1 e);
  }

  first_reply_back : (m : ℕ) → FirstReply n C' R' T' A' m → FirstReply n C R T A m
  first_reply_back m f = record {
    reply_arrives = (r m).1 f.reply_arrives;
    j = f.j;
    before = f.before;
    copy_arrived = (c f.j).1 f.copy_arrived;
    of_current = unanswered_back f.j m f.of_current;
    first = λ k l h e. f.first k l h ((r k).0 e);
  }

  first_copy : (m : ℕ) → FirstCopy n C R T A m → FirstCopy n C' R' T' A' m
  first_copy m f = record { copy_arrives = (c m).0 f.copy_arrives; first = λ j h e o. f.first j h ((c j).1 e) (unanswered_back j m o) }

  first_copy_back : (m : ℕ) → FirstCopy n C' R' T' A' m → FirstCopy n C R T A m
  first_copy_back m f = record { copy_arrives = (c m).1 f.copy_arrives; first = λ j h e o. f.first j h ((c j).0 e) (unanswered j m o) }

  under_way : UnderWay n C R T A → UnderWay n C' R' T' A'
  under_way u =
      record { j = u.j; in_list = u.in_list; copy_arrived = (c u.j).0 u.copy_arrived; of_current = unanswered u.j n u.of_current }

  under_way_back : UnderWay n C' R' T' A' → UnderWay n C R T A
  under_way_back u =
      record { j = u.j; in_list = u.in_list; copy_arrived = (c u.j).1 u.copy_arrived; of_current = unanswered_back u.j n u.of_current }

  pub same_law : (toggles answered : ℕ) → Lawful n C R T A toggles answered → Lawful n C' R' T' A' toggles answered
  same_law toggles answered law = record {
    counts = ⊎_elim (λ s. inl (s.0, λ u. s.1 (under_way_back u))) (λ s. inr (s.0, under_way s.1)) law.counts;
    answered_exactly = λ m.
        (λ e. first_reply m ((law.answered_exactly m).0 ((a m).1 e)), λ f. (a m).0 ((law.answered_exactly m).1 (first_reply_back m f)));
    toggled_exactly = λ m.
        (λ e. first_copy m ((law.toggled_exactly m).0 ((t m).1 e)), λ f. (t m).0 ((law.toggled_exactly m).1 (first_copy_back m f)));
    never_twice = λ j m h p q. let w = law.never_twice j m h ((t j).1 p) ((t m).1 q) in (w.0, w.1, w.2, (a w.0).0 w.3);
    at_rest = λ rest. law.at_rest (λ u. rest (under_way u));
  }
