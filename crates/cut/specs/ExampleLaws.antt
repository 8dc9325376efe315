-- The examples hold: computed.
use Rattle.std.specs.Prelude.{refl}
use mathlib.Core.List.{flat_map}
use Rattle.cursor.specs.Parsed.{records}
use Rattle.cursor.specs.Fields.{byte_of, word_of, word_bytes}
use Rattle.request.specs.Request.{task_rule, judged_task, task_of, tasks_of, pair_rule, judged_pair, pair_of, pairs_of, silent_of, reading}
use Rattle.request.specs.Encode.{task_bytes, pair_bytes, section_bytes, silent_bytes, request_bytes}
use Rattle.cursor.specs.Written.{written, buffer}
use Rattle.request.specs.Written.{request_answer, request_buffer}
use Rattle.cut.specs.Cut.{cut_tasks, cut_pairs, cuttable, cut}
use Rattle.cut.specs.Example.{Examples}

pub examples : Examples
unfolding reading tasks_of task_of judged_task task_rule pairs_of pair_of judged_pair pair_rule silent_of records byte_of word_of
    request_bytes section_bytes task_bytes pair_bytes silent_bytes word_bytes flat_map
    cut_tasks cut_pairs cuttable cut written buffer request_answer request_buffer
examples = record {
  p2_gives_p3 = refl;
  behind = refl;
  linked_is = refl;
  u_edges = refl;
  unknown = refl;
  order = refl;
  boundary = refl;
}
