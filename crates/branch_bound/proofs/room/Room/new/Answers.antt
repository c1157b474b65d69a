use Rattle.branch_bound.proofs.room.Room.new.Goals as goal

-- src/room.rt:129:5
pub returns : goal.returns
returns c = record {
  tree_empty = c.in_ok-tree.ensures.items;
  tree_room = c.in_ok-tree.ensures.capacity;
  sets_empty = c.in_ok-sets.ensures.items;
  sets_room = c.in_ok-sets.ensures.capacity;
  zeros_page = c.in_ok-zeros.ensures.page;
  zeros_are = c.in_ok-zeros.ensures.rents;
  zeros_fit = c.in_ok-zeros.ensures.fit;
  first_fits = c.in_ok-spares.ensures.first;
  spare_fits = c.in_ok-spares.ensures.spare;
  others_fit = c.in_ok-spares.ensures.others;
  cheaper_are = c.in_ok-cheaper.ensures;
  ledgers_room = c.in_ok-ledgers.ensures.ledgers;
  ledgers_most = c.in_ok-ledgers.ensures.most;
  rows_places = c.in_ok-ledgers.ensures.places;
}
