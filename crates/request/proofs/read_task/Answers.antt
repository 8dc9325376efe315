-- Four words are read, one behind the other: where one is missing the definition is refused with 1, and the four make a task, which is judged.
use Rattle.std.proofs.Common.{sym, ◌∙◌}
use Rattle.cursor.specs.FieldLaws.{word_taken, word_missing}
use Rattle.request.specs.Request.{task_of, judged_task}
use Rattle.request.specs.ReadingLaws.{task_words, task_end}
use Rattle.request.proofs.read_task.Goals as goal

pub returns-in_default : goal.returns-in_default
unfolding task_of
returns-in_default c = simp (word_missing 1 _ _ (sym c.word.ensures ∙ c.in_default.is))

pub returns-in_default-word : goal.returns-in_default-word
unfolding task_of
returns-in_default-word c =
    simp (
      (word_taken 1 _ _ _ _ (sym c.word.ensures ∙ c.in-Some.is)).field,
      word_missing 1 _ _ (sym c.word-2.ensures ∙ c.in_default-word.is),
    )

pub returns-in_default-word-2 : goal.returns-in_default-word-2
unfolding task_of
returns-in_default-word-2 c =
    simp (
      (word_taken 1 _ _ _ _ (sym c.word.ensures ∙ c.in-Some.is)).field,
      (word_taken 1 _ _ _ _ (sym c.word-2.ensures ∙ c.in-Some-word.is)).field,
      word_missing 1 _ _ (sym c.word-3.ensures ∙ c.in_default-word-2.is),
    )

pub returns-in_default-word-3 : goal.returns-in_default-word-3
unfolding task_of
returns-in_default-word-3 c =
    simp (
      (word_taken 1 _ _ _ _ (sym c.word.ensures ∙ c.in-Some.is)).field,
      (word_taken 1 _ _ _ _ (sym c.word-2.ensures ∙ c.in-Some-word.is)).field,
      (word_taken 1 _ _ _ _ (sym c.word-3.ensures ∙ c.in-Some-word-2.is)).field,
      word_missing 1 _ _ (sym c.word-4.ensures ∙ c.in_default-word-3.is),
    )

pub returns-then-keeps_task_rule : goal.returns-then-keeps_task_rule
unfolding judged_task
returns-then-keeps_task_rule c =
    let e1 = sym c.word.ensures ∙ c.in-Some.is in
    let e2 = sym c.word-2.ensures ∙ c.in-Some-word.is in
    let e3 = sym c.word-3.ensures ∙ c.in-Some-word-2.is in
    let e4 = sym c.word-4.ensures ∙ c.in-Some-word-3.is in
    rw (task_words _ _ e1 e2 e3 e4, task_end _ _ e1 e2 e3 e4) (simp (sym c.keeps_task_rule.ensures ∙ c.if-keeps_task_rule.true))

pub returns-else-keeps_task_rule : goal.returns-else-keeps_task_rule
unfolding judged_task
returns-else-keeps_task_rule c =
    let e1 = sym c.word.ensures ∙ c.in-Some.is in
    let e2 = sym c.word-2.ensures ∙ c.in-Some-word.is in
    let e3 = sym c.word-3.ensures ∙ c.in-Some-word-2.is in
    let e4 = sym c.word-4.ensures ∙ c.in-Some-word-3.is in
    rw (task_words _ _ e1 e2 e3 e4) (simp (sym c.keeps_task_rule.ensures ∙ c.if-keeps_task_rule.false))
