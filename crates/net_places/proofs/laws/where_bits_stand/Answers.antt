use Rattle.net_places.proofs.BitLaws.{all_spots_are, bit_numbers, local_bits_are, spot_numbers}
use Rattle.net_places.proofs.laws.where_bits_stand.Goals as goal

pub returns : goal.returns
returns c = record { local = local_bits_are; numbers = bit_numbers; all = all_spots_are; spot_numbers = spot_numbers }
