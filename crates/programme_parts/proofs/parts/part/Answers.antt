use Rattle.std.proofs.Common.{◌≡◌, ◌<◌, ◌≤◌, length, All, List, refl, sym, subst, arith}
use Rattle.adv_base.specs.declared.limits.TheConstants.{MOST_SLOTS}
use Rattle.plan_model.specs.declared.template.Template.{Template}
use Rattle.plan_model.specs.Combinations.{Decompose, AreKept}
use Rattle.plan_model.proofs.Listing.{kept-list-decompose}
use Rattle.std.proofs.lemmas.Option.{slice_get_within}
use Rattle.inum_cache.specs.Caches.{orders_of}
use Rattle.inum_cache.specs.Templates.{AreInOrder}
use Rattle.bip_model.specs.Limits.Parts.{TemplateLimits}
use Rattle.adv_base.specs.Settings.{the_setting}
use Rattle.programme_parts.specs.Kept.{AsksNothingPast, HasAllPlaces}
use Rattle.programme_parts.proofs.SlotParts.{asks-past, template-limits, slot-part}
use Rattle.programme_parts.proofs.parts.part.Goals as goal

pub invariant_of-result : goal.invariant_of-result
invariant_of-result c =
    let setting = c.args.setting.now in
    let block = c.args.block.now in
    let cache = c.args.cache.now in
    let cached = c.requires.cached in
    let parts = c.in_ok-slots.slots in
    let few : length block.slots ≤ MOST_SLOTS = block.limits.slots_most in
    let some : 1 ≤ length block.slots = block.limits.slots_some in
    let count : length parts ≡ length block.slots = c.in_ok-slots.ensures.count in
    let counted : length block.slots ≡ length cache.choices.orders = omega (arith, cached.task_is.slots_are, cached.cache_is.slots) in
    record {
      limits =
          record {
            statement_least = c.requires.number_least;
            statement_most = c.requires.number_most;
            weight_least = c.requires.weight_least;
            weight_most = c.requires.weight_most;
            slots_some = omega (arith, count, some);
            slots_most = omega (arith, count, few);
            templates_limits =
                subst (λ (templates : List Template). All (TemplateLimits parts) templates) (sym c.in_ok-templates.ensures)
                (template-limits (the_setting setting) block cache (length block.slots) parts c.in_ok-slots.ensures counted);
          };
    }

pub returns-clause-part_is : goal.returns-clause-part_is
returns-clause-part_is c =
    let setting = c.args.setting.now in
    let block = c.args.block.now in
    let cache = c.args.cache.now in
    let cached = c.requires.cached in
    let task = cached.task in
    record {
      statement_is = refl;
      weight_is = refl;
      task = task;
      task_is = cached.task_is;
      decompose = subst (Decompose task) (sym c.in_ok-templates.ensures) (kept-list-decompose task cache.templates cached.cache_is.kept);
      slots_count = c.in_ok-slots.ensures.count;
      slots_are = λ s slot own found own_found.
          let within = slice_get_within block.slots s slot found in
          let below : s < task.slots = omega (arith, within, cached.task_is.slots_are) in
          slot-part (the_setting setting) block task (orders_of cache s) s slot own found (cached.cache_is.orders s below) (c.in_ok-slots.ensures.each s own own_found);
    }

pub returns-clause-kept : goal.returns-clause-kept
returns-clause-kept c =
    let cache = c.args.cache.now in
    let cached = c.requires.cached in
    record {
      task = cached.task;
      task_is = cached.task_is;
      past = subst (All (AsksNothingPast cached.task.slots)) (sym c.in_ok-templates.ensures) (asks-past cached.task cache cached.cache_is);
      kept = subst (AreKept cached.task) (sym c.in_ok-templates.ensures) cached.cache_is.kept;
      places = subst (All HasAllPlaces) c.as_slice.ensures c.have_all_places.ensures;
      in_order = subst AreInOrder (sym c.in_ok-templates.ensures) cached.cache_is.in_order;
    }
