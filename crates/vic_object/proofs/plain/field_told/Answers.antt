use Rattle.std.proofs.Common.{◌∙◌, ap, map, take}
use Rattle.vic_log.specs.Order.{entries}
use Rattle.vic_object.specs.Asking.{asks_for}
use Rattle.vic_object.specs.Told.{link_of}
use Rattle.vic_object.proofs.FieldMade.{certain_are, masks_are}
use Rattle.vic_object.proofs.plain.field_told.Goals as goal

pub returns : goal.returns
returns c =
    let lines = c.args.log.now.lines in
    let facts = c.args.facts.now in
    let told = c.requires.facts.told in
    let counted = c.in_ok-masks.ensures in
    let first = c.deref.ensures.value ∙ counted.first in
    let link = c.link_of.ensures.link ∙ ap (λ ls. link_of (entries ls)) c.lines.ensures.value in
    record {
      certain = certain_are lines facts.«open» facts.certain _ told (c.in_ok-from_slice.ensures.items ∙ c.as_slice.ensures.value);
      all = counted.all;
      are_all = masks_are lines facts.«open» facts.certain c.args.certain_keys.now counted.all told c.requires.certain_keys counted.are_all;
      masks = counted.count;
      uids = counted.uids;
      asked = c.in_ok-asked_masks.ensures.masks ∙ first;
      requests = c.in_ok-asked_masks.ensures.requests (entries lines) c.in_ok-collided.ensures ∙ ap (map (asks_for (entries lines) c.link_of.result)) first ∙ ap (λ n. map (asks_for (entries lines) n) (take 1000 counted.all)) link;
    }
