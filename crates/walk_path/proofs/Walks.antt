-- The example floor and its walks: all by computation.
use mathlib.Core.Path.{◌≡◌, refl}
use mathlib.Core.Bool.{true}
use mathlib.Core.List.{map}
use Rattle.table_records.specs.Below.{all_below, none_twice}
use Rattle.table_records.specs.Bytes.{same_bytes}
use Rattle.table_records.specs.Search.{first_from}
use Rattle.table_tree.specs.Tree.{ranks_in, whole_tree, parent_of}
use Rattle.table_tree.specs.Depths.{climbs, depth_of, tree_good}
use Rattle.table_services.specs.Services.{services_in, is_name, is_padding, service_good, same_service, services_good}
use Rattle.table_services_find.specs.Lookup.{service_of, registers, registered_as}
use Rattle.walk_path.specs.Path.{climbed, chain, up_to, below, is_in, up_path, common_ancestor, rank_path, path_of}
use Rattle.walk_path.specs.Walks.{floor_tree, floor_services, table, by_path, WalksAreRight}

tree_right : tree_good floor_tree ≡ true
unfolding tree_good whole_tree ranks_in parent_of depth_of climbs all_below
tree_right = refl

services_right : services_good floor_tree floor_services ≡ true
unfolding services_good services_in ranks_in all_below none_twice service_good same_service is_name is_padding same_bytes
services_right = refl

rows_right : map by_path table ≡ table
unfolding path_of up_path rank_path common_ancestor chain climbed up_to below is_in parent_of ranks_in depth_of climbs service_of registered_as registers services_in first_from same_bytes
rows_right = refl

pub walks_are_right : WalksAreRight
walks_are_right = record { tree = tree_right; services = services_right; rows = rows_right }
