mod Intervals
