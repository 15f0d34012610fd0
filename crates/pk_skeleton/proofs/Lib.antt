mod Leftovers
