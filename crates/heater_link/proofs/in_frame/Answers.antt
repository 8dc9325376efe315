-- What is served arrives unless it is lost; the rest is what `exchanged` ensures.
use Rattle.std.proofs.Common.{◌≡◌, ◌∙◌, ap, arith, Bool}
use Rattle.heater_link.specs.Exchange.{serves, arrives}
use Rattle.heater_link.specs.StepLaws.{served_among}
use Rattle.heater_link.proofs.in_frame.Goals as goal

pub returns : goal.returns
returns c =
    let a = c.args in
    let command : c.arrives-command.result ≡ arrives (serves a.a a.frame.tasks a.frame.count) a.lost.command =
    c.arrives-command.ensures ∙ ap (λ (b : Bool). arrives b a.lost.command) (c.contains.ensures.value ∙ served_among a.a a.frame.tasks a.frame.count (omega (arith, c.requires))) in
    let reply : c.arrives-reply.result ≡ arrives (serves a.b a.frame.tasks a.frame.count) a.lost.reply =
    c.arrives-reply.ensures ∙ ap (λ (b : Bool). arrives b a.lost.reply) (c.contains-2.ensures.value ∙ served_among a.b a.frame.tasks a.frame.count (omega (arith, c.requires))) in
    rw (← command, ← reply) c.exchanged.ensures
